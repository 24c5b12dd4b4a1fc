-- The theorems of specs/Fixed.antt, and what they rest on. Assumes nothing.
use Rattle.std.specs.Prelude.{◌≡◌, length}
use Rattle.std.proofs.Math.Path.{refl}
use Rattle.std.proofs.Common.{ap}
use mathlib.Core.List.{List, ◌++◌}
use Prim.Native.Nat.{ℕ, suc}
use Rattle.rules.specs.Layouts.{entry_layout}
use Rattle.rules.specs.Table.{entry_place}
use Rattle.rules.specs.Ring.{opening_of}
use Rattle.rules.specs.State.{Work}
use Rattle.rules.specs.State.Work.{resting, entries, packets, waiting}
use Rattle.rules.specs.Listed.{placed, Named, opening_listed, started_listed, submission_listed, listed_at}
use Rattle.rules.specs.declared.Registers.{Registers}
use Rattle.rules.specs.declared.Opening.{Opening}
use Rattle.rules.specs.declared.Opening.TheVariants.{BadRing, NoWork, Refused, Started}
use Rattle.promises_of_submissions.specs.Reads.{AgreeOn}
use Rattle.promises_of_leftovers.specs.Opening.{front_of, back-of}
use Rattle.promises_of_leftovers.proofs.Opening.{opening-read, listed-opening}
use Rattle.promises_of_leftovers.specs.Fixed.{same-opened, same-opening-listed, same-packets}

module _ (m m' : List ℕ) (len : length m ≡ length m') where
  -- ---- a submission

  -- the next submission of a ring
  pub listed-is-fixed : (ring size : ℕ) → AgreeOn m m' (submission_listed m ring size) → submission_listed m ring size ≡ submission_listed m' ring size
  unfolding submission_listed
  listed-is-fixed ring size same =
      let here : AgreeOn m m' (opening_listed m ring size) = front_of m m' _ _ same in
      rw (← (same-opening-listed m m' len) ring size (opening-read m m' ring size here), ← listed-opening m m' ring size here len)
      (ap (λ (l : List Named). opening_listed m ring size ++ l) (by-opening (opening_of m ring size) (back-of m m' (opening_listed m ring size) _ same)))
    where
      by-opening : (v : Opening) → AgreeOn m m' (started_listed m v) → started_listed m v ≡ started_listed m' v
      by-opening BadRing same = refl
      by-opening NoWork same = refl
      by-opening (Refused j r) same = refl
      by-opening (Started o) same = (same-opened m m' len) o 0 same

  -- and what is listed of a device, whatever it has in work
  pub listed-is-fixed-at : (r : Registers) (k : Work) → AgreeOn m m' (listed_at r k m) → listed_at r k m ≡ listed_at r k m'
  listed-is-fixed-at r resting same = listed-is-fixed r.ring r.ringsize same
  listed-is-fixed-at r (entries o kept) same =
      ap (λ (l : List Named). placed (entry_place o.table (length kept)) entry_layout ++ l)
      ((same-opened m m' len) o (suc (length kept)) (back-of m m' (placed (entry_place o.table (length kept)) entry_layout) _ same))
  listed-is-fixed-at r (packets j s at es h) same = (same-packets m m' len) (suc s.size) s at same
  listed-is-fixed-at r (waiting j es h) same = refl
