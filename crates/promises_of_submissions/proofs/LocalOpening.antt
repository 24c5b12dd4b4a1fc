-- The theorems of specs/LocalOpening.antt, and what they rest on. Assumes nothing.
use Rattle.std.specs.Prelude.{◌≡◌, Bool, ◌&&◌, List, eqb, length}
use Rattle.std.proofs.Math.Path.{refl, ap}
use Rattle.std.proofs.Common.{◌∙◌, leb-true}
use Rattle.std.proofs.Math.Bool.{true, false}
use Prim.Native.Nat.{ℕ, ◌+◌}
use Rattle.std.proofs.lemmas.Bool.{eqb-false}
use Rattle.std.proofs.Math.Dec.{leb}
use Rattle.machine.specs.Machine.{pick}
use Rattle.rules.specs.Layouts.{ring_header, ring_header_size, descriptor}
use Rattle.rules.specs.Ring.{job_of, slot_place, submission_opening, good_header, good_ring, ring_opening, opening_of}
use Rattle.rules.specs.declared.Descriptor.{Descriptor}
use Rattle.rules.specs.declared.Opening.{Opening}
use Rattle.rules.specs.declared.Opening.TheVariants.{BadRing, NoWork}
use Rattle.rule_laws.specs.Fine.{both_left, both_right}
use Rattle.promises_of_submissions.specs.LocalBytes.{Agree, same-ring-header, same-descriptor}
use Rattle.promises_of_submissions.specs.LocalOpening.{SameOpening, SameSlot, header, same-submission}

-- ---- a submission

module _ (m m' : List ℕ) (len : length m ≡ length m') where
  -- ---- the ring

  module _ (ring size : ℕ) (same : SameOpening m m' ring size) where
    same_good : good_ring m ring size ≡ good_ring m' ring size
    unfolding good_ring
    same_good = rw (← len) (by_tests (leb ring_header_size size) (leb (ring + size) (length m)) refl refl)
      where
        by_tests : (a b : Bool) → leb ring_header_size size ≡ a → leb (ring + size) (length m) ≡ b
            → a && (b && good_header size (ring_header m ring)) ≡ a && (b && good_header size (ring_header m' ring))
        by_tests true true p q =
            ap (good_header size) (same-ring-header m m' ring (same.header (leb-true ring_header_size size p) (leb-true (ring + size) (length m) q)))
        by_tests true false p q = refl
        by_tests false b p q = refl

    module _ (good : good_ring m ring size ≡ true) where
      same-header : (header m m' len ring size same) ≡ ring_header m' ring
      unfolding good_ring
      same-header =
          same-ring-header m m' ring
          (same.header (leb-true ring_header_size size (both_left _ _ good))
          (leb-true (ring + size) (length m) (both_left _ _ (both_right (leb ring_header_size size) _ good))))

      same-slot : ring_opening m ring (header m m' len ring size same) ≡ ring_opening m' ring (header m m' len ring size same)
      unfolding ring_opening
      same-slot = by_test (eqb (header m m' len ring size same).head (header m m' len ring size same).tail) refl
        where
          place : ℕ
          place = slot_place ring (header m m' len ring size same)

          opened : List ℕ → Descriptor → Opening
          opened l d = submission_opening l (header m m' len ring size same).stride (job_of ring (header m m' len ring size same) d) d

          by_test : (t : Bool) → eqb (header m m' len ring size same).head (header m m' len ring size same).tail ≡ t
              → pick t NoWork (opened m (descriptor m place)) ≡ pick t NoWork (opened m' (descriptor m' place))
          by_test true t = refl
          by_test false t =
              let slot : SameSlot m m' place (header m m' len ring size same).stride = same.pending good (eqb-false (header m m' len ring size same).head (header m m' len ring size same).tail t) in
              (same-submission m m' len) (header m m' len ring size same).stride (job_of ring (header m m' len ring size same) (descriptor m place)) (descriptor m place) slot.ranges
              ∙ ap (opened m') (same-descriptor m m' place slot.slot)

    -- the same opening, whatever stands elsewhere
    pub same-opening : opening_of m ring size ≡ opening_of m' ring size
    unfolding opening_of
    same-opening = rw (← same_good) (by_test (good_ring m ring size) refl)
      where
        by_test : (t : Bool) → good_ring m ring size ≡ t → pick t (ring_opening m ring (header m m' len ring size same)) BadRing ≡ pick t (ring_opening m' ring (ring_header m' ring)) BadRing
        by_test true t = same-slot t ∙ ap (ring_opening m' ring) (same-header t)
        by_test false t = refl
