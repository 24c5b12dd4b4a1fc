-- Steps over still memory find in a table what the list of its entries says, at the same entry; and what the table's
-- first error says of its bytes alone. Assumes nothing.
use Rattle.std.specs.Prelude.{◌≡◌, true, List, [], ◌∷◌, length, take, drop, Err, Ok}
use Rattle.std.proofs.Math.Path.{refl}
use Rattle.std.proofs.Common.{◌∙◌, ⊎_elim, zero-add, add_assoc, mul-le-mul_right, suc-mul, add-one, arith, lt-ltb, le-leb, length-append, length-drop, length-take-le}
use Prim.Native.Nat.{ℕ, zero, suc, ◌+◌, ◌*◌, ◌≤◌, ◌<◌}
use Rattle.std.proofs.Math.Nat.{add-zero}
use Rattle.rules.specs.Numbers.{most}
use Rattle.rules.specs.Lists.{pushed}
use Rattle.rules.specs.Judging.Finding.{fine}
use Rattle.rules.specs.Layouts.{entry, entry_size, table_header, table_header_size}
use Rattle.rules.specs.Table.{Judged, keep, entry_rules, entry_place, take_entry, in_reach, entries_from, entries_of, stop_or_go, judge_entries, header_rules, checked_table, after_header, table_finding}
use Rattle.rules.specs.declared.Entry.{Entry}
use Rattle.rules.specs.declared.Table.{Table}
use Rattle.rules.specs.declared.TableHeader.{TableHeader}
use Rattle.words.specs.Over.{below_or_not}
use Rattle.words.specs.Fields.{field-part}
use Rattle.table_header.specs.Header.{Sized, fine-sized, header-short}
use Rattle.table_whole.specs.Whole.{entries-more, length-entries}
use Rattle.rules.specs.Judging.{Verdict}

-- steps one after the other, n at most: the first broken rule with its place, and how many were taken up to and with it
unfoldable pub stepped : List ℕ → Table → ℕ → List Entry → Judged
stepped m t zero kept = record { finding = fine; count = 0 }
stepped m t (suc n) kept = stop_or_go (length kept) (take_entry m t kept).verdict (stepped m t n (take_entry m t kept).kept)

-- ---- one step

-- whatever the verdict on an entry, the list goes on with what is kept
go_on : (memory : ℕ) (kept : List Entry) (e : Entry) (es : List Entry) (v : Verdict)
    → stop_or_go (length kept) v (judge_entries memory (pushed kept e) es) ≡ stop_or_go (length kept) (keep v kept e).verdict (judge_entries memory (keep v kept e).kept es)
go_on memory kept e es (Ok _) = refl
go_on memory kept e es (Err r) = refl

-- a step judges what the list judges next, and keeps what the list goes on with
pub step-agrees : (m : List ℕ) (t : Table) (kept : List Entry) (n : ℕ) → in_reach m t (length kept) ≡ true
    → judge_entries (length m) kept (entries_from m t (length kept) (suc n))
    ≡ stop_or_go (length kept) (take_entry m t kept).verdict (judge_entries (length m) (take_entry m t kept).kept (entries_from m t (suc (length kept)) n))
unfolding judge_entries entries_from take_entry
step-agrees m t kept n h =
    let e : Entry = entry m (entry_place t (length kept)) in
    rw h (go_on (length m) kept e (entries_from m t (suc (length kept)) n) (entry_rules (length m) kept e))

-- ---- steps

module _ (m : List ℕ) (t : Table) (n : ℕ) (kept : List Entry) (e : Entry)
    (later : stepped m t n (pushed kept e) ≡ judge_entries (length m) (pushed kept e) (entries_from m t (suc (length kept)) n)) where
  by-verdict : (v : Verdict) → stop_or_go (length kept) (keep v kept e).verdict (stepped m t n (keep v kept e).kept)
      ≡ stop_or_go (length kept) v (judge_entries (length m) (pushed kept e) (entries_from m t (suc (length kept)) n))
  by-verdict (Ok _) = rw later
  by-verdict (Err r) = refl

-- steps find the broken rule that the list of the entries has first, and spend its count
pub steps-agree : (m : List ℕ) (t : Table) (n : ℕ) (kept : List Entry)
    → ((k : ℕ) → length kept ≤ k → k < length kept + n → in_reach m t k ≡ true)
    → stepped m t n kept ≡ judge_entries (length m) kept (entries_from m t (length kept) n)
unfolding stepped judge_entries entries_from take_entry
steps-agree m t zero kept reach = refl
steps-agree m t (suc n) kept reach =
    let e : Entry = entry m (entry_place t (length kept)) in
    let longer : length (pushed kept e) ≡ suc (length kept) = length-append kept (e ∷ []) ∙ add-one (length kept) in
    let later : stepped m t n (pushed kept e) ≡ judge_entries (length m) (pushed kept e) (entries_from m t (length (pushed kept e)) n) =
    steps-agree m t n (pushed kept e) (λ k p q. reach k (omega arith) (omega arith)) in
    rw (reach (length kept) (omega arith) (omega arith)) (by-verdict m t n kept e (rw longer at later) (entry_rules (length m) kept e))

-- as long as all is fine, what is kept are the table's first entries
module _ (m : List ℕ) (t : Table) (i : ℕ) (reach : in_reach m t i ≡ true) where
  keeps-one : (kept : List Entry) (e : Entry) (v : Verdict) → (keep v kept e).verdict ≡ Ok tt → (keep v kept e).kept ≡ pushed kept e
  keeps-one kept e (Ok _) h = refl
  keeps-one kept e (Err r) h = let z : ◌≡◌ {A = ℕ} 0 1 = cc in absurd (omega arith)

  pub steps-keep : (take_entry m t (entries_from m t 0 i)).verdict ≡ Ok tt → (take_entry m t (entries_from m t 0 i)).kept ≡ entries_from m t 0 (i + 1)
  unfolding take_entry
  steps-keep h =
      rw (length-entries m t 0 i, reach, entries-more m t i)
      (keeps-one (entries_from m t 0 i) (entry m (entry_place t i)) (entry_rules (length m) (entries_from m t 0 i) (entry m (entry_place t i)))
      (rw (length-entries m t 0 i, reach) at h))

-- ---- a checked table

-- the entries of a sized table are within its bytes
sized-room : (tablesize : ℕ) (h : TableHeader) (i : ℕ) → Sized tablesize h → i < h.count → table_header_size + i * h.stride + entry_size ≤ tablesize
sized-room tablesize h i s p = omega (arith, s.room, s.wide, mul-le-mul_right h.stride p, suc-mul i h.stride)

-- and each is in reach of the steps
pub checked-in-reach : (m : List ℕ) (at tablesize : ℕ) (h : TableHeader) → header_rules tablesize h ≡ Ok tt → at + tablesize ≤ length m
    → (i : ℕ) → i < h.count → in_reach m (checked_table at h) i ≡ true
checked-in-reach m at tablesize h good room i p =
    let s : Sized tablesize h = fine-sized tablesize h good in
    let few : i < most = omega (arith, s.few) in
    let fits : at + (table_header_size + i * h.stride) + entry_size ≤ length m = omega (arith, sized-room tablesize h i s p) in
    rw (lt-ltb _ _ few, le-leb _ _ fits)

-- ---- the first error

-- a table's bytes, taken out of the memory that it stands in
module _ (m : List ℕ) (at tablesize : ℕ) (room : at + tablesize ≤ length m) where
  abbrev bytes : List ℕ
  bytes = take tablesize (drop at m)

  length-bytes : length bytes ≡ tablesize
  length-bytes = length-take-le tablesize (drop at m) (simp length-drop (omega arith))

  header-same : table_header_size ≤ tablesize → table_header bytes 0 ≡ table_header m at
  unfolding table_header
  header-same h =
      rw (
        field-part 4 0 tablesize at m (omega arith) room,
        field-part 4 4 tablesize at m (omega arith) room,
        field-part 4 8 tablesize at m (omega arith) room,
        field-part 4 12 tablesize at m (omega arith) room,
        field-part 4 16 tablesize at m (omega arith) room,
        add-zero,
      )

  entry-same : (k : ℕ) → k + entry_size ≤ tablesize → entry bytes k ≡ entry m (at + k)
  unfolding entry
  entry-same k h =
      rw (
        field-part 4 k tablesize at m (omega arith) room,
        field-part 4 (k + 4) tablesize at m (omega arith) room,
        field-part 8 (k + 8) tablesize at m (omega arith) room,
        field-part 8 (k + 16) tablesize at m (omega arith) room,
      )
      (simp add_assoc)

  module _ (h : TableHeader) (s : Sized tablesize h) where
    entries-same : (i n : ℕ) → i + n ≤ h.count → entries_from bytes (checked_table 0 h) i n ≡ entries_from m (checked_table at h) i n
    unfolding entries_from
    entries-same i zero p = refl
    entries-same i (suc n) p =
        rw (zero-add, entry-same (table_header_size + i * h.stride) (sized-room tablesize h i s (omega arith)), entries-same (suc i) n (omega arith))

  module _ (h : TableHeader) where
    judged-same : (v : Verdict) → header_rules tablesize h ≡ v
        → after_header v (judge_entries (length m) [] (entries_of bytes (checked_table 0 h))).finding ≡ after_header v (stepped m (checked_table at h) h.count []).finding
    judged-same (Err r) e = refl
    judged-same (Ok _) e =
        rw (
          steps-agree m (checked_table at h) h.count [] (λ k p q. checked-in-reach m at tablesize h e room k (omega arith)),
          entries-same h (fine-sized tablesize h e) 0 h.count (omega arith),
        )

  -- what is found in a table's bytes alone, number and place, is what its opening and its steps find in memory
  pub first-fault-as-steps : table_finding bytes (length m)
      ≡ after_header (header_rules tablesize (table_header m at)) (stepped m (checked_table at (table_header m at)) (table_header m at).count []).finding
  unfolding table_finding
  first-fault-as-steps =
      rw length-bytes
      (⊎_elim
      (λ p. rw (← header-short tablesize (table_header bytes 0) p, ← header-short tablesize (table_header m at) p))
      (λ p. rw (header-same p) (judged-same (table_header m at) (header_rules tablesize (table_header m at)) refl))
      (below_or_not tablesize table_header_size))
