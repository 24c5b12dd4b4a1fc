-- An opening is fixed by the ring's header, the head's slot, and the headers of the table and of the stream, each only where the rules before it
-- let it be read: by what they say, whatever bytes say it. Assumes nothing.
use Rattle.std.specs.Prelude.{◌≡◌, Bool, ◌&&◌, List, ltb, eqb, length, Err, Ok}
use Rattle.std.proofs.Math.Path.{refl, ap}
use Rattle.std.proofs.Common.{sym, ◌∙◌, leb-true, ltb-false}
use Rattle.std.proofs.Math.Bool.{true, false}
use Prim.Native.Nat.{ℕ, ◌+◌, ◌≤◌}
use Rattle.std.proofs.lemmas.Bool.{eqb-false}
use Rattle.std.proofs.Math.Dec.{leb}
use Rattle.machine.specs.Machine.{pick}
use Rattle.rules.specs.Judging.{only, ◌▹◌, Verdict}
use Rattle.rules.specs.Layouts.{ring_header, ring_header_size, descriptor, table_header, table_header_size, stream_header, stream_header_size}
use Rattle.rules.specs.Headers.{wrong_header}
use Rattle.rules.specs.Table.{header_rules, checked_table, no_table}
use Rattle.rules.specs.Stream.{stream_rules, stream_of, no_stream}
use Rattle.rules.specs.Ring.{present, descriptor_rules, range_rules, submission_rules, job_of, opened_of, concluded, slot_place, submission_opening, good_header, good_ring, ring_opening, opening_of}
use Rattle.rules.specs.Listed.{table_fine}
use Rattle.rules.specs.declared.RingHeader.{RingHeader}
use Rattle.rules.specs.declared.Descriptor.{Descriptor}
use Rattle.rules.specs.declared.TableHeader.{TableHeader}
use Rattle.rules.specs.declared.StreamHeader.{StreamHeader}
use Rattle.rules.specs.declared.Job.{Job}
use Rattle.rules.specs.declared.Opened.{Opened}
use Rattle.rules.specs.declared.Opening.{Opening}
use Rattle.rules.specs.declared.Opening.TheVariants.{BadRing, NoWork, Started}
use Rattle.rules.specs.declared.Refusal.TheVariants.{BadTable, BadStream}
use Rattle.rule_laws.specs.Fine.{broken-not-fine, both_left, both_right}
use Rattle.promises_of_submissions.specs.LocalOpening.{stream_fine, same-rules, same_kept, small-table, small-stream}

-- of the ranges that a descriptor names: the table's header, and the stream's if the table's is good
pub record RangesRead (m m' : List ℕ) (d : Descriptor) : Type 0 where
  pub table : table_header_size ≤ d.tablesize → table_header m d.table ≡ table_header m' d.table
  pub stream : table_fine m d ≡ Ok tt → stream_header_size ≤ d.cmdsize → stream_header m d.cmd ≡ stream_header m' d.cmd

-- of a slot: its descriptor, and the ranges if 11 and 12 let them pass
pub record SlotRead (m m' : List ℕ) (at stride : ℕ) : Type 0 where
  pub slot : descriptor m at ≡ descriptor m' at
  pub ranges : descriptor_rules stride (descriptor m at) ≡ Ok tt → range_rules (length m) (descriptor m at) ≡ Ok tt → RangesRead m m' (descriptor m at)

-- of a ring: its header if it lies within memory and is no smaller than that, and the head's slot if the header is good and a submission is pending
pub record OpeningRead (m m' : List ℕ) (ring size : ℕ) : Type 0 where
  pub header : ring_header_size ≤ size → ring + size ≤ length m → ring_header m ring ≡ ring_header m' ring
  pub pending : good_ring m ring size ≡ true → ((ring_header m ring).head ≡ (ring_header m ring).tail → ⊥)
      → SlotRead m m' (slot_place ring (ring_header m ring)) (ring_header m ring).stride

-- ---- a submission

module _ (m m' : List ℕ) (d : Descriptor) (same : RangesRead m m' d) where
  table_same : table_header_size ≤ d.tablesize → table_header m d.table ≡ table_header m' d.table
  table_same h = same.table h

  stream-same : table_fine m d ≡ Ok tt → stream_header_size ≤ d.cmdsize → stream_header m d.cmd ≡ stream_header m' d.cmd
  stream-same f h = same.stream f h

  pub same-table-rules : table_fine m d ≡ table_fine m' d
  same-table-rules =
      same-rules (header_rules d.tablesize) BadTable table_header_size d.tablesize (small-table d.tablesize)
      (table_header m d.table) (table_header m' d.table) table_same

  same-stream-rules : table_fine m d ≡ Ok tt → stream_fine m d ≡ stream_fine m' d
  same-stream-rules f =
      same-rules (stream_rules d.cmdsize) BadStream stream_header_size d.cmdsize (small-stream d.cmdsize)
      (stream_header m d.cmd) (stream_header m' d.cmd) (stream-same f)

  same-opened : (j : Job) → table_fine m d ≡ Ok tt → stream_fine m d ≡ Ok tt → opened_of m j d ≡ opened_of m' j d
  same-opened j f g =
      let t =
      same_kept (header_rules d.tablesize) BadTable table_header_size d.tablesize (small-table d.tablesize)
      (table_header m d.table) (table_header m' d.table) table_same (checked_table d.table) no_table f in
      let s =
      same_kept (stream_rules d.cmdsize) BadStream stream_header_size d.cmdsize (small-stream d.cmdsize)
      (stream_header m d.cmd) (stream_header m' d.cmd) (stream-same f) (stream_of d.cmd) no_stream g in
      rw (t, s)

  -- the rules of both, and what is concluded of them
  same-concluded : (j : Job) → concluded (table_fine m d ▹ stream_fine m d) j (opened_of m j d) ≡ concluded (table_fine m' d ▹ stream_fine m' d) j (opened_of m' j d)
  same-concluded j = rw (← same-table-rules) (by-verdict (table_fine m d) refl)
    where
      by-stream : (v : Verdict) → stream_fine m d ≡ v → table_fine m d ≡ Ok tt → concluded v j (opened_of m j d) ≡ concluded v j (opened_of m' j d)
      by-stream (Ok _) g f = ap (λ (o : Opened). Started o) (same-opened j f g)
      by-stream (Err r) g f = refl

      by-verdict : (v : Verdict) → table_fine m d ≡ v → concluded (v ▹ stream_fine m d) j (opened_of m j d) ≡ concluded (v ▹ stream_fine m' d) j (opened_of m' j d)
      by-verdict (Ok _) f = rw (← same-stream-rules f) (by-stream (stream_fine m d) refl f)
      by-verdict (Err r) f = refl

module _ (m m' : List ℕ) (len : length m ≡ length m') where
  same-submission : (stride : ℕ) (j : Job) (d : Descriptor)
      → (descriptor_rules stride d ≡ Ok tt → range_rules (length m) d ≡ Ok tt → RangesRead m m' d)
      → submission_opening m stride j d ≡ submission_opening m' stride j d
  unfolding submission_opening submission_rules
  same-submission stride j d same = rw (← len) (by-verdicts (descriptor_rules stride d) (range_rules (length m) d) refl refl)
    where
      by-verdicts : (u v : Verdict) → descriptor_rules stride d ≡ u → range_rules (length m) d ≡ v
          → concluded (u ▹ v ▹ table_fine m d ▹ stream_fine m d) j (opened_of m j d) ≡ concluded (u ▹ v ▹ table_fine m' d ▹ stream_fine m' d) j (opened_of m' j d)
      by-verdicts (Ok _) (Ok _) p q = same-concluded m m' d (same p q) j
      by-verdicts (Ok _) (Err r) p q = refl
      by-verdicts (Err r) v p q = refl

  -- ---- the ring

  module _ (ring size : ℕ) (same : OpeningRead m m' ring size) where
    abbrev header : RingHeader
    header = ring_header m ring

    pub same_good : good_ring m ring size ≡ good_ring m' ring size
    unfolding good_ring
    same_good = rw (← len) (by_tests (leb ring_header_size size) (leb (ring + size) (length m)) refl refl)
      where
        by_tests : (a b : Bool) → leb ring_header_size size ≡ a → leb (ring + size) (length m) ≡ b
            → a && (b && good_header size (ring_header m ring)) ≡ a && (b && good_header size (ring_header m' ring))
        by_tests true true p q =
            ap (good_header size) (same.header (leb-true ring_header_size size p) (leb-true (ring + size) (length m) q))
        by_tests true false p q = refl
        by_tests false b p q = refl

    module _ (good : good_ring m ring size ≡ true) where
      pub same-header : header ≡ ring_header m' ring
      unfolding good_ring
      same-header =
          same.header (leb-true ring_header_size size (both_left _ _ good))
          (leb-true (ring + size) (length m) (both_left _ _ (both_right (leb ring_header_size size) _ good)))

      same-slot : ring_opening m ring header ≡ ring_opening m' ring header
      unfolding ring_opening
      same-slot = by_test (eqb header.head header.tail) refl
        where
          place : ℕ
          place = slot_place ring header

          opened : List ℕ → Descriptor → Opening
          opened l d = submission_opening l header.stride (job_of ring header d) d

          by_test : (t : Bool) → eqb header.head header.tail ≡ t
              → pick t NoWork (opened m (descriptor m place)) ≡ pick t NoWork (opened m' (descriptor m' place))
          by_test true t = refl
          by_test false t =
              let slot : SlotRead m m' place header.stride = same.pending good (eqb-false header.head header.tail t) in
              same-submission header.stride (job_of ring header (descriptor m place)) (descriptor m place) slot.ranges
              ∙ ap (opened m') slot.slot

    -- the same opening, whatever the other bytes are
    pub read-opening : opening_of m ring size ≡ opening_of m' ring size
    unfolding opening_of
    read-opening = rw (← same_good) (by_test (good_ring m ring size) refl)
      where
        by_test : (t : Bool) → good_ring m ring size ≡ t → pick t (ring_opening m ring header) BadRing ≡ pick t (ring_opening m' ring (ring_header m' ring)) BadRing
        by_test true t = same-slot t ∙ ap (ring_opening m' ring) (same-header t)
        by_test false t = refl
