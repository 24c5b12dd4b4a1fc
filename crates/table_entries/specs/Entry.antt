-- One entry: what its reading, its judging and its keeping ask, and how a kept one is found again. Assumes nothing.
use Rattle.std.proofs.Math.Path.{◌≡◌}
use Rattle.std.specs.Prelude.{refl, Option, is_some, Bool, not, ◌&&◌, List, [], ◌∷◌, ℕ, ◌+◌, ◌*◌, ◌-◌, ◌^◌, ◌≤◌, ◌<◌, ltb, leb, eqb, length, set, Err, Ok}
use Rattle.std.proofs.Common.{sym, ap, ◌∙◌, mod-eq_of_lt, arith, rules}
use Rattle.std.proofs.Math.Bool.{true, false}
use Rattle.std.proofs.Math.Numerals.{towards_suc}
use borrow.Author.Tests.{lt-ltb, le-ltb, ltb-false, leb-true, eq-eqb, ne_eqb, not-true, not-false}
use Rattle.rules.specs.Numbers.{most}
use Rattle.rules.specs.Lists.{pushed}
use Rattle.rules.specs.Judging.{rule, ◌▹◌, Verdict}
use Rattle.rules.specs.Layouts.{entry, entry_size, table_header_size}
use Rattle.rules.specs.Table.{entry_id, matching, is_found, entry_rules, entry_place, take_entry, in_reach}
use Rattle.rules.specs.declared.Entry.{Entry}
use Rattle.rules.specs.declared.Refusal.{Refusal}
use Rattle.rules.specs.declared.Table.{Table}
use Rattle.rules.specs.declared.Refusal.TheVariants.{BadEntry, TwiceInTable}
use Rattle.rows.specs.Rows.{length-table, table-push-sets}
use Rattle.rows.specs.Keys.{place_of}
use Rattle.widths.specs.Beyond.{leb-ltb}
use Rattle.kept_entries.specs.Views.{entry_of, entries_of, taken_of}
use Rattle.kept_entries.specs.Rows.{entry-known}

-- ---- sound

-- an entry breaks none of the rules that look at it alone
unfoldable pub sound : ℕ → Entry → Bool
sound memory e = not (eqb e.id 0) && (not (eqb e.size 0) && leb (e.gpa + e.size) memory)

module _ (memory : ℕ) (e : Entry) where
  pub sound-no-id : e.id ≡ 0 → false ≡ sound memory e
  unfolding sound
  sound-no-id p = rw (eq-eqb _ _ p)

  module _ (p : e.id ≡ 0 → ⊥) where
    pub sound-no-size : e.size ≡ 0 → false ≡ sound memory e
    unfolding sound
    sound-no-size q = rw (ne_eqb _ _ p, eq-eqb _ _ q)

    pub sound-ends : (b : Bool) → (e.size ≡ 0 → ⊥) → b ≡ ltb memory (e.gpa + e.size) → not b ≡ sound memory e
    unfolding sound
    sound-ends b q is = rw (ne_eqb _ _ p, ne_eqb _ _ q, leb-ltb (e.gpa + e.size) memory, is)

pub ruleset sounding = (sound-no-id, sound-no-size, sound-ends, rules)

-- ---- judge_entry

-- the rules that look at an entry alone: one is broken, or the next rule decides
alone : (a b c : Bool) (later : Verdict) → not a && (not b && not c) ≡ false
    → rule BadEntry a ▹ rule BadEntry b ▹ rule BadEntry c ▹ later ≡ Err BadEntry
alone true b c later h = refl
alone false true c later h = refl
alone false false true later h = refl
alone false false false later h = let z : ◌≡◌ {A = ℕ} 0 1 = cc in absurd (omega arith)

past_all : (a b c : Bool) (later : Verdict) → not a && (not b && not c) ≡ true
    → rule BadEntry a ▹ rule BadEntry b ▹ rule BadEntry c ▹ later ≡ later
past_all false false false later h = refl
past_all true b c later h = let z : ◌≡◌ {A = ℕ} 0 1 = cc in absurd (omega arith)
past_all false true c later h = let z : ◌≡◌ {A = ℕ} 0 1 = cc in absurd (omega arith)
past_all false false true later h = let z : ◌≡◌ {A = ℕ} 0 1 = cc in absurd (omega arith)

-- over any earlier entries: what the sound ones and the others come to
module _ (memory : ℕ) (earlier : List Entry) (e : Entry) where
  pub unsound : sound memory e ≡ false → entry_rules memory earlier e ≡ Err BadEntry
  unfolding sound entry_rules
  unsound h = alone (eqb e.id 0) (eqb e.size 0) (ltb memory (e.gpa + e.size)) _ (rw (← leb-ltb (e.gpa + e.size) memory) h)

  pub sound-once : sound memory e ≡ true → entry_rules memory earlier e ≡ rule TwiceInTable (is_found (matching e.id earlier))
  unfolding sound entry_rules
  sound-once h = past_all (eqb e.id 0) (eqb e.size 0) (ltb memory (e.gpa + e.size)) _ (rw (← leb-ltb (e.gpa + e.size) memory) h)

module _ (memory n : ℕ) (l : List ℕ) (e : Entry) (good : Bool) (is : good ≡ sound memory e) where
  pub judged-unsound : not good ≡ true → Err BadEntry ≡ entry_rules memory (entries_of n l) e
  judged-unsound h = sym (unsound memory (entries_of n l) e (sym is ∙ not-true good h))

  module _ (h : not good ≡ false) (r : Option ℕ) (place : r ≡ place_of entry_id e.id (entries_of n l)) (b : Bool) (known : b ≡ is_some r) where
    once : entry_rules memory (entries_of n l) e ≡ rule TwiceInTable b
    once = sound-once memory (entries_of n l) e (sym is ∙ not-false good h) ∙ rw (entry-known n e.id l r place, known)

    pub judged-twice : b ≡ true → Err TwiceInTable ≡ entry_rules memory (entries_of n l) e
    judged-twice p = rw (once, p)

    pub judged-fine : b ≡ false → Ok tt ≡ entry_rules memory (entries_of n l) e
    judged-fine p = rw (once, p)

pub ruleset judging_entry = (judged-unsound, judged-twice, judged-fine, rules)

-- ---- push_entry

-- an entry comes back from its row as it was
pub entry_kept : (e : Entry) → e.id < 2 ^ 32 → e.flags < 2 ^ 32 → entry_of (e.id ∷ e.flags ∷ e.gpa ∷ (e.gpa + e.size) ∷ []) ≡ e
entry_kept e p q =
    let back : e.gpa + e.size - e.gpa ≡ e.size = omega arith in
    rw (mod-eq_of_lt p, mod-eq_of_lt q, back)

pub pushes : (n a b : ℕ) (l : List ℕ) (e : Entry) → (n < most) × (e.gpa + e.size < 18446744073709551616) → length l ≡ 256 → (a ≡ e.id) × (a < 4294967296) → (b ≡ e.flags) × (b < 4294967296)
    → entries_of (n + 1) (set (set (set (set l (4 * n) a) (4 * n + 1) b) (4 * n + 2) e.gpa) (4 * n + 3) (e.gpa + e.size)) ≡ pushed (entries_of n l) e
pushes n a b l e h len p q =
    let vs : List ℕ = e.id ∷ e.flags ∷ e.gpa ∷ (e.gpa + e.size) ∷ [] in
    let same : entry_of vs ≡ e = entry_kept e (omega arith) (omega arith) in
    rw (p.0, q.0)
    (simp towards_suc (simp towards_suc at (table-push-sets entry_of 4 n vs l refl (omega arith))) ∙ ap (λ x. pushed (entries_of n l) x) same)

pub ruleset pushing = (pushes, rules)

-- ---- take_entry

module _ (m : List ℕ) (t : Table) (n : ℕ) (l : List ℕ) where
  missed : in_reach m t n ≡ false → taken_of (Err BadEntry) n l ≡ take_entry m t (entries_of n l)
  unfolding take_entry
  missed h = rw (length-table entry_of 4 n l, h)

  pub take-full : most ≤ n → taken_of (Err BadEntry) n l ≡ take_entry m t (entries_of n l)
  take-full h = missed (rw (le-ltb _ _ h))

  module _ (h : n < most) (o : ℕ) (offset : (o ≡ table_header_size + n * t.stride) × (o + 2 ^ 32 ≤ 2 ^ 64))
      (b : Bool) (is : b ≡ ltb (length m) (t.gpa + (o + entry_size))) where
    ends : leb (entry_place t n + entry_size) (length m) ≡ not b
    ends =
        let same : entry_place t n + entry_size ≡ t.gpa + (o + entry_size) = omega arith in
        leb-ltb (entry_place t n + entry_size) (length m) ∙ rw (same, is)

    pub take_past : b ≡ true → taken_of (Err BadEntry) n l ≡ take_entry m t (entries_of n l)
    take_past q = missed (rw (lt-ltb _ _ h, ends, q))

    module _ (q : b ≡ false) where
      pub take-sum : t.gpa + o + entry_size ≤ length m
      take-sum = omega (arith, ltb-false (length m) (t.gpa + (o + entry_size)) (sym is ∙ q))

      pub take-start : length m < 2 ^ 64 → t.gpa + o < 2 ^ 64
      take-start fits = omega (arith, take-sum)

      module _ (e : Entry) (read : e ≡ entry m (t.gpa + o)) (v : Verdict) (judged : v ≡ entry_rules (length m) (entries_of n l) e) where
        reached : in_reach m t n ≡ true
        reached = rw (lt-ltb _ _ h, ends, q)

        place : entry m (entry_place t n) ≡ e
        place = sym (read ∙ ap (λ k. entry m (t.gpa + k)) offset.0)

        pub take-fine : (l' : List ℕ) → v ≡ Ok tt → entries_of (n + 1) l' ≡ pushed (entries_of n l) e → taken_of (Ok tt) n l' ≡ take_entry m t (entries_of n l)
        unfolding take_entry
        take-fine l' told kept = rw (length-table entry_of 4 n l, reached, place, ← judged, told, kept)

        pub take-broken : (why : Refusal) → v ≡ Err why → taken_of (Err why) n l ≡ take_entry m t (entries_of n l)
        unfolding take_entry
        take-broken why told = rw (length-table entry_of 4 n l, reached, place, ← judged, told)

-- an entry that is fine ends within memory, so its end can be kept
third : (a b c : Bool) → a && (b && c) ≡ true → c ≡ true
third true true c h = h
third true false c h = let z : ◌≡◌ {A = ℕ} 0 1 = cc in absurd (omega arith)
third false b c h = let z : ◌≡◌ {A = ℕ} 0 1 = cc in absurd (omega arith)

module _ (n : ℕ) (l : List ℕ) (m : List ℕ) (e : Entry) (v : Verdict) (judged : v ≡ entry_rules (length m) (entries_of n l) e) (told : v ≡ Ok tt) where
  fine-ends : (t : Bool) → sound (length m) e ≡ t → e.gpa + e.size ≤ length m
  unfolding sound
  fine-ends true h = leb-true _ _ (third (not (eqb e.id 0)) (not (eqb e.size 0)) (leb (e.gpa + e.size) (length m)) h)
  fine-ends false h =
      let broken : entry_rules (length m) (entries_of n l) e ≡ Err BadEntry = unsound (length m) (entries_of n l) e h in
      let z : ◌≡◌ {A = ℕ} 0 1 = cc in absurd (omega arith)

  pub fine-kept : length m < 2 ^ 64 → e.gpa + e.size < 18446744073709551616
  fine-kept fits = omega (arith, fine-ends (sound (length m) e) refl)

pub ruleset taking = (fine-kept, take-full, take_past, take-sum, take-start, take-fine, take-broken, rules)
