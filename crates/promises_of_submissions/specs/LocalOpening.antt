-- An opening reads the ring's header, the head's slot, and the headers of the table and of the stream, each only where the rules before
-- it let it be read. Assumes nothing.
use Rattle.std.specs.Prelude.{◌≡◌, Bool, List, ltb, length, Err, Ok}
use Rattle.std.proofs.Math.Path.{refl, ap}
use Rattle.std.proofs.Common.{sym, ◌∙◌, ltb-false}
use Rattle.std.proofs.Math.Bool.{true, false}
use Prim.Native.Nat.{ℕ, ◌+◌, ◌≤◌}
use Rattle.machine.specs.Machine.{pick}
use Rattle.rules.specs.Judging.{only, ◌▹◌, Verdict}
use Rattle.rules.specs.Layouts.{ring_header, ring_header_size, descriptor, descriptor_size, table_header, table_header_size, stream_header, stream_header_size}
use Rattle.rules.specs.Headers.{wrong_header}
use Rattle.rules.specs.Table.{header_rules, checked_table, no_table}
use Rattle.rules.specs.Stream.{stream_rules, stream_of, no_stream}
use Rattle.rules.specs.Ring.{present, descriptor_rules, range_rules, submission_rules, opened_of, concluded, slot_place, submission_opening, good_ring}
use Rattle.rules.specs.declared.RingHeader.{RingHeader}
use Rattle.rules.specs.declared.Descriptor.{Descriptor}
use Rattle.rules.specs.declared.TableHeader.{TableHeader}
use Rattle.rules.specs.declared.StreamHeader.{StreamHeader}
use Rattle.rules.specs.declared.Job.{Job}
use Rattle.rules.specs.declared.Opened.{Opened}
use Rattle.rules.specs.declared.Opening.TheVariants.{Started}
use Rattle.rules.specs.declared.Refusal.TheVariants.{BadTable, BadStream}
use Rattle.rule_laws.specs.Fine.{broken-not-fine}
use Rattle.promises_of_submissions.specs.LocalBytes.{Agree, same-table-header, same-stream-header}
use Rattle.rules.specs.declared.Refusal.{Refusal}

-- the rules of a table that is present, if one is
abbrev pub table_fine : List ℕ → Descriptor → Verdict
table_fine m d = only (present d.tablesize) (header_rules d.tablesize (table_header m d.table))

-- and those of a stream
abbrev pub stream_fine : List ℕ → Descriptor → Verdict
stream_fine m d = only (present d.cmdsize) (stream_rules d.cmdsize (stream_header m d.cmd))

-- of the ranges that a descriptor names: the table's header, and the stream's if the table's is good
pub record SameRanges (m m' : List ℕ) (d : Descriptor) : Type 0 where
  pub table : table_header_size ≤ d.tablesize → Agree m m' d.table table_header_size
  pub stream : table_fine m d ≡ Ok tt → stream_header_size ≤ d.cmdsize → Agree m m' d.cmd stream_header_size

-- of a slot: its descriptor, and the ranges if 11 and 12 let them pass
pub record SameSlot (m m' : List ℕ) (at stride : ℕ) : Type 0 where
  pub slot : Agree m m' at descriptor_size
  pub ranges : descriptor_rules stride (descriptor m at) ≡ Ok tt → range_rules (length m) (descriptor m at) ≡ Ok tt → SameRanges m m' (descriptor m at)

-- of a ring: its header if it lies within memory and is no smaller than that, and the head's slot if the header is good and a submission is pending
pub record SameOpening (m m' : List ℕ) (ring size : ℕ) : Type 0 where
  pub header : ring_header_size ≤ size → ring + size ≤ length m → Agree m m' ring ring_header_size
  pub pending : good_ring m ring size ≡ true → ((ring_header m ring).head ≡ (ring_header m ring).tail → ⊥)
      → SameSlot m m' (slot_place ring (ring_header m ring)) (ring_header m ring).stride

-- ---- a header that a descriptor leads to, the table's or the stream's: a range that is too small for it is refused without a look at it

module _ {H : Type 0} (rules : H → Verdict) (why : Refusal) (least size : ℕ) (small : ltb size least ≡ true → (y : H) → rules y ≡ Err why)
    (x x' : H) (same : least ≤ size → x ≡ x') where
  pub same-rules : only (present size) (rules x) ≡ only (present size) (rules x')
  same-rules = by_test (ltb size least) refl
    where
      by_test : (t : Bool) → ltb size least ≡ t → only (present size) (rules x) ≡ only (present size) (rules x')
      by_test true t = rw (small t x, small t x')
      by_test false t = rw (same (ltb-false size least t))

  pub same_kept : {K : Type 0} (of : H → K) (none : K) → only (present size) (rules x) ≡ Ok tt → pick (present size) (of x) none ≡ pick (present size) (of x') none
  same_kept of none h = by_tests (present size) (ltb size least) refl h
    where
      by_tests : (a b : Bool) → ltb size least ≡ b → only a (rules x) ≡ Ok tt → pick a (of x) none ≡ pick a (of x') none
      by_tests true true t k = absurd (broken-not-fine why (sym (small t x) ∙ k))
      by_tests a false t k = rw (same (ltb-false size least t))
      by_tests false true t k = refl

pub small-table : (size : ℕ) → ltb size table_header_size ≡ true → (h : TableHeader) → header_rules size h ≡ Err BadTable
unfolding header_rules wrong_header
small-table size t h = rw t

pub small-stream : (size : ℕ) → ltb size stream_header_size ≡ true → (h : StreamHeader) → stream_rules size h ≡ Err BadStream
unfolding stream_rules wrong_header
small-stream size t h = rw t

-- ---- a submission

module _ (m m' : List ℕ) (d : Descriptor) (same : SameRanges m m' d) where
  table_same : table_header_size ≤ d.tablesize → table_header m d.table ≡ table_header m' d.table
  table_same h = same-table-header m m' d.table (same.table h)

  stream-same : table_fine m d ≡ Ok tt → stream_header_size ≤ d.cmdsize → stream_header m d.cmd ≡ stream_header m' d.cmd
  stream-same f h = same-stream-header m m' d.cmd (same.stream f h)

  same-table-rules : table_fine m d ≡ table_fine m' d
  same-table-rules =
      same-rules (header_rules d.tablesize) BadTable table_header_size d.tablesize (small-table d.tablesize)
      (table_header m d.table) (table_header m' d.table) table_same

  same-stream-rules : table_fine m d ≡ Ok tt → stream_fine m d ≡ stream_fine m' d
  same-stream-rules f =
      same-rules (stream_rules d.cmdsize) BadStream stream_header_size d.cmdsize (small-stream d.cmdsize)
      (stream_header m d.cmd) (stream_header m' d.cmd) (stream-same f)

  same-opened : (j : Job) → table_fine m d ≡ Ok tt → stream_fine m d ≡ Ok tt → opened_of m j d ≡ opened_of m' j d
  same-opened j f g =
      let t =
      same_kept (header_rules d.tablesize) BadTable table_header_size d.tablesize (small-table d.tablesize)
      (table_header m d.table) (table_header m' d.table) table_same (checked_table d.table) no_table f in
      let s =
      same_kept (stream_rules d.cmdsize) BadStream stream_header_size d.cmdsize (small-stream d.cmdsize)
      (stream_header m d.cmd) (stream_header m' d.cmd) (stream-same f) (stream_of d.cmd) no_stream g in
      rw (t, s)

  -- the rules of both, and what is concluded of them
  same-concluded : (j : Job) → concluded (table_fine m d ▹ stream_fine m d) j (opened_of m j d) ≡ concluded (table_fine m' d ▹ stream_fine m' d) j (opened_of m' j d)
  same-concluded j = rw (← same-table-rules) (by-verdict (table_fine m d) refl)
    where
      by-stream : (v : Verdict) → stream_fine m d ≡ v → table_fine m d ≡ Ok tt → concluded v j (opened_of m j d) ≡ concluded v j (opened_of m' j d)
      by-stream (Ok _) g f = ap (λ (o : Opened). Started o) (same-opened j f g)
      by-stream (Err r) g f = refl

      by-verdict : (v : Verdict) → table_fine m d ≡ v → concluded (v ▹ stream_fine m d) j (opened_of m j d) ≡ concluded (v ▹ stream_fine m' d) j (opened_of m' j d)
      by-verdict (Ok _) f = rw (← same-stream-rules f) (by-stream (stream_fine m d) refl f)
      by-verdict (Err r) f = refl

module _ (m m' : List ℕ) (len : length m ≡ length m') where
  pub same-submission : (stride : ℕ) (j : Job) (d : Descriptor)
      → (descriptor_rules stride d ≡ Ok tt → range_rules (length m) d ≡ Ok tt → SameRanges m m' d)
      → submission_opening m stride j d ≡ submission_opening m' stride j d
  unfolding submission_opening submission_rules
  same-submission stride j d same = rw (← len) (by-verdicts (descriptor_rules stride d) (range_rules (length m) d) refl refl)
    where
      by-verdicts : (u v : Verdict) → descriptor_rules stride d ≡ u → range_rules (length m) d ≡ v
          → concluded (u ▹ v ▹ table_fine m d ▹ stream_fine m d) j (opened_of m j d) ≡ concluded (u ▹ v ▹ table_fine m' d ▹ stream_fine m' d) j (opened_of m' j d)
      by-verdicts (Ok _) (Ok _) p q = same-concluded m m' d (same p q) j
      by-verdicts (Ok _) (Err r) p q = refl
      by-verdicts (Err r) v p q = refl

  -- ---- the ring

  module _ (ring size : ℕ) (same : SameOpening m m' ring size) where
    abbrev pub header : RingHeader
    header = ring_header m ring
