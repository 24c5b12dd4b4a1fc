-- The table as a list: its entries one after the other, and what the scan of the whole asks. Assumes nothing.
use Rattle.std.specs.Prelude.{◌≡◌, Bool, true, false, not, eqb, length, Err, Ok, Result}
use Rattle.std.proofs.Math.Path.{refl, sym, ap}
use Rattle.std.proofs.Common.{◌∙◌, ⊎_elim, eq-eqb, ne_eqb, zero-add, mul-le-mul_right, suc-mul, mod-eq_of_lt, add-one, arith, rules}
use mathlib.Core.List.{List, [], ◌∷◌}
use Prim.Native.Nat.{ℕ, zero, suc, ◌+◌, ◌*◌, ◌-◌, ◌%◌, ◌^◌, ◌≤◌, ◌<◌}
use Rattle.std.proofs.Math.Nat.{sub-zero}
use Rattle.std.proofs.lemmas.Bool.{not-true, not-false}
use Rattle.rules.specs.Numbers.{bad_entry, twice_in_table, most, no_place}
use Rattle.std.specs.List.{list_any, range_with_len}
use Rattle.rules.specs.Lists.{pushed}
use Rattle.rules.specs.Judging.{Finding, rule, number, place_of, Verdict, error_number}
use Rattle.rules.specs.Layouts.{word, entry, entry_size, table_header, table_header_size}
use Rattle.rules.specs.Table.{entry_id, matching, is_found, entry_rules, entry_place, entries_from, entries_of, stop_or_go, judge_entries, header_rules, checked_table, table_finding}
use Rattle.rules.specs.declared.Entry.{Entry}
use Rattle.rules.specs.declared.Refusal.{Refusal}
use Rattle.rules.specs.declared.Fault.{Fault}
use Rattle.rules.specs.declared.Table.{Table}
use Rattle.rules.specs.declared.Refusal.TheVariants.{TwiceInTable}
use Rattle.rows.specs.Rows.{tab, tab-first, tab-none, tab-snoc}
use Rattle.rows.specs.Keys.{same_or_not, lookup-here, lookup-later, lookup-nil}
use Rattle.table_header.specs.Header.{headed, Sized, fine-sized}
use Rattle.table_entries.specs.Entry.{sound, unsound, sound-once}

-- what was found, as a host is shown it: number and place
abbrev pub shown : Finding → Fault
shown f = record { code = number f; place = place_of f }

-- a table that stands at the front of some bytes, with each of its entries within them
pub record Within (b : List ℕ) (t : Table) : Type 0 where
  pub front : t.gpa ≡ 0
  pub few : t.count ≤ most
  pub wide : entry_size ≤ t.stride
  pub room : table_header_size + t.count * t.stride ≤ length b

-- ---- a run of entries

module _ (m : List ℕ) (t : Table) where
  abbrev entry_in : ℕ → Entry
  entry_in i = entry m (entry_place t i)

  from-tab : (i n : ℕ) → entries_from m t i n ≡ tab entry_in i n
  unfolding entries_from tab
  from-tab i zero = refl
  from-tab i (suc n) = ap {B = List Entry} (λ r. entry_in i ∷ r) (from-tab (suc i) n)

  -- the first, where there is one
  pub entries-first : (i n : ℕ) → i < n → entries_from m t i (n - i) ≡ entry m (entry_place t i) ∷ entries_from m t (i + 1) (n - (i + 1))
  entries-first i n h = rw (from-tab, from-tab) (tab-first entry_in i n h)

  pub entries_none : (i n : ℕ) → n ≤ i → entries_from m t i (n - i) ≡ []
  entries_none i n h = rw from-tab (tab-none entry_in i n h)

  -- one more at the end
  pub entries-more : (n : ℕ) → entries_from m t 0 (n + 1) ≡ pushed (entries_from m t 0 n) (entry m (entry_place t n))
  entries-more n = rw (from-tab, from-tab, add-one, tab-snoc, zero-add)

  pub length-entries : (k n : ℕ) → length (entries_from m t k n) ≡ n
  unfolding entries_from
  length-entries k zero = refl
  length-entries k (suc n) = ap suc (length-entries (suc k) n)

  -- an id is found among entries where one of them has it
  pub any-found : (id k n : ℕ) → list_any (λ j. eqb (entry_in j).id id) (range_with_len k n) ≡ is_found (matching id (entries_from m t k n))
  unfolding entries_from
  any-found id k zero = rw (lookup-nil entry_id id)
  any-found id k (suc n) =
      let rest : List Entry = entries_from m t (suc k) n in
      rw (add-one, any-found id (suc k) n)
      (⊎_elim
      (λ q. rw (eq-eqb _ _ q, lookup-here entry_id id (entry_in k) rest q))
      (λ q. rw (ne_eqb _ _ q, lookup-later entry_id id (entry_in k) rest q))
      (same_or_not (entry_in k).id id))

-- ---- entries_fault

-- an entry of such a table lies within its bytes
pub entry-room : (b : List ℕ) (t : Table) (i o : ℕ) → Within b t → i < t.count → (o ≡ table_header_size + i * t.stride) × (o + 2 ^ 32 ≤ 2 ^ 64)
    → o + entry_size ≤ length b
entry-room b t i o w h at = omega (arith, w.room, w.wide, at.0, mul-le-mul_right t.stride h, suc-mul i t.stride)

-- and so does the id of each before it
pub id-room : (b : List ℕ) (t : Table) (i j o : ℕ) → Within b t → i < t.count → j < i → (o ≡ table_header_size + j * t.stride) × (o + 2 ^ 32 ≤ 2 ^ 64)
    → o + 4 ≤ length b
id-room b t i j o w h q at = omega (arith, entry-room b t j o w (omega arith) at)

-- and stands where the rule book has it
at_front : (b : List ℕ) (t : Table) (i o : ℕ) → Within b t → (o ≡ table_header_size + i * t.stride) × (o + 2 ^ 32 ≤ 2 ^ 64) → o ≡ entry_place t i
at_front b t i o w at = omega (arith, w.front)

module _ (b : List ℕ) (memory : ℕ) (t : Table) where
  -- what is found from entry i on is what is found in all
  abbrev pub Scanned : ℕ → Type 0
  Scanned i =
      (judge_entries memory [] (entries_of b t)).finding ≡ (judge_entries memory (entries_from b t 0 i) (entries_from b t i (t.count - i))).finding

  -- an id is among the first i entries where it is among those from entry j to entry i
  abbrev pub Sought : ℕ → ℕ → ℕ → Type 0
  Sought id i j = matching id (entries_from b t 0 i) ≡ matching id (entries_from b t j (i - j))

  pub scan-start : Scanned 0
  unfolding entries_from
  scan-start = rw sub-zero

  pub scan-end : (i : ℕ) → Scanned i → t.count ≤ i → record { code = 0; place = no_place } ≡ shown (judge_entries memory [] (entries_of b t)).finding
  unfolding judge_entries
  scan-end i inv h = rw (inv, entries_none b t i t.count h)

  pub sought_start : (id i : ℕ) → Sought id i 0
  sought_start id i = rw sub-zero

  -- the id of an entry stands where the rule book has it
  pub id-read : (j o x : ℕ) → Within b t → (o ≡ table_header_size + j * t.stride) × (o + 2 ^ 32 ≤ 2 ^ 64) → x ≡ word b o → x ≡ (entry b (entry_place t j)).id
  unfolding entry
  id-read j o x w at read = read ∙ ap (λ k. word b k) (at_front b t j o w at)

  module _ (w : Within b t) (i : ℕ) (inv : Scanned i) (h : i < t.count) (o : ℕ) (at : (o ≡ table_header_size + i * t.stride) × (o + 2 ^ 32 ≤ 2 ^ 64))
      (e : Entry) (read : e ≡ entry b o) (good : Bool) (is : good ≡ sound memory e) where
    place : entry b (entry_place t i) ≡ e
    place = sym (read ∙ ap (λ k. entry b k) (at_front b t i o w at))

    here : (judge_entries memory [] (entries_of b t)).finding
        ≡ (stop_or_go i (entry_rules memory (entries_from b t 0 i) e) (judge_entries memory (pushed (entries_from b t 0 i) e) (entries_from b t (i + 1) (t.count - (i + 1))))).finding
    unfolding judge_entries
    here = rw (inv, entries-first b t i t.count h, place, length-entries b t 0 i)

    uncut : i % 2 ^ 32 ≡ i
    uncut = mod-eq_of_lt (omega (arith, w.few))

    pub scan-unsound : not good ≡ true → record { code = bad_entry; place = i } ≡ shown (judge_entries memory [] (entries_of b t)).finding
    scan-unsound p = rw (here, unsound memory (entries_from b t 0 i) e (sym is ∙ not-true good p), uncut)

    -- by whether its id is among the first i entries
    module _ (p : not good ≡ false) (r : Bool) (among : r ≡ is_found (matching e.id (entries_from b t 0 i))) where
      known : entry_rules memory (entries_from b t 0 i) e ≡ rule TwiceInTable r
      known = sound-once memory (entries_from b t 0 i) e (sym is ∙ not-false good p) ∙ rw among

      pub scan-among : r ≡ true → record { code = twice_in_table; place = i } ≡ shown (judge_entries memory [] (entries_of b t)).finding
      scan-among q = rw (here, known, q, uncut)

      pub scan-new : r ≡ false → Scanned (i + 1)
      scan-new q = rw (here, known, q, entries-more b t i, place)

    module _ (p : not good ≡ false) (j : ℕ) (so_far : Sought e.id i j) where
      once : entry_rules memory (entries_from b t 0 i) e ≡ rule TwiceInTable (is_found (matching e.id (entries_from b t j (i - j))))
      once = sound-once memory (entries_from b t 0 i) e (sym is ∙ not-false good p) ∙ rw so_far

      pub scan-next : i ≤ j → Scanned (i + 1)
      scan-next q =
          rw (here, once, entries_none b t j i q, lookup-nil entry_id e.id, entries-more b t i, place)

      module _ (q : j < i) (o' x : ℕ) (at' : (o' ≡ table_header_size + j * t.stride) × (o' + 2 ^ 32 ≤ 2 ^ 64)) (read' : x ≡ word b o') where
        id-there : (entry b (entry_place t j)).id ≡ x
        unfolding entry
        id-there = sym (read' ∙ ap (λ k. word b k) (at_front b t j o' w at'))

        pub scan-twice : x ≡ e.id → record { code = twice_in_table; place = i } ≡ shown (judge_entries memory [] (entries_of b t)).finding
        scan-twice r =
            rw (here, once, entries-first b t j i q, lookup-here entry_id e.id (entry b (entry_place t j)) (entries_from b t (j + 1) (i - (j + 1))) (id-there ∙ r), uncut)

        pub sought_next : (x ≡ e.id → ⊥) → Sought e.id i (j + 1)
        sought_next r =
            rw (so_far, entries-first b t j i q)
            (lookup-later entry_id e.id (entry b (entry_place t j)) (entries_from b t (j + 1) (i - (j + 1))) (λ s. r (sym id-there ∙ s)))

pub ruleset scanning = (entry-room, id-room, scan-start, scan-end, sought_start, scan-unsound, scan-next, scan-twice, sought_next, id-read, scan-among, scan-new, rules)

-- ---- first_fault

-- what the end of a header's check says of its rules
bad-rules : (v : Verdict) (t : Table) (why : Refusal) → headed v t ≡ Err why → v ≡ Err why
bad-rules (Ok _) t why e = let z : ◌≡◌ {A = ℕ} 0 1 = cc in absurd (omega arith)
bad-rules (Err x) t why e = cc

good-rules : (v : Verdict) (t t' : Table) → headed v t ≡ Ok t' → (v ≡ Ok tt) × (t' ≡ t)
good-rules (Ok _) t t' e = (refl, cc)
good-rules (Err x) t t' e = let z : ◌≡◌ {A = ℕ} 0 1 = cc in absurd (omega arith)

module _ (b : List ℕ) (memory : ℕ) (r : Result Table Refusal) (checked : r ≡ headed (header_rules (length b) (table_header b 0)) (checked_table 0 (table_header b 0))) where
  pub first-in-header : (why : Refusal) (n : ℕ) → r ≡ Err why → n ≡ error_number why → record { code = n; place = no_place } ≡ shown (table_finding b memory)
  unfolding table_finding
  first-in-header why n told is =
      let e : header_rules (length b) (table_header b 0) ≡ Err why =
      bad-rules (header_rules (length b) (table_header b 0)) (checked_table 0 (table_header b 0)) why (sym checked ∙ told) in
      rw (e, is)

  module _ (t : Table) (told : r ≡ Ok t) where
    both : (header_rules (length b) (table_header b 0) ≡ Ok tt) × (t ≡ checked_table 0 (table_header b 0))
    both = good-rules (header_rules (length b) (table_header b 0)) (checked_table 0 (table_header b 0)) t (sym checked ∙ told)

    pub within-bytes : Within b t
    within-bytes =
        let s : Sized (length b) (table_header b 0) = fine-sized (length b) (table_header b 0) both.0 in
        rw both.1 (record { front = refl; few = s.few; wide = s.wide; room = s.room })

    pub first-in-entries : (x : Fault) → x ≡ shown (judge_entries memory [] (entries_of b t)).finding → x ≡ shown (table_finding b memory)
    unfolding table_finding
    first-in-entries x e = rw (both.0, e, both.1)

pub ruleset first_fault_of = (first-in-header, first-in-entries, within-bytes, rules)
