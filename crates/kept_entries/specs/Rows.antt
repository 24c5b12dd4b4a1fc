-- Entries read, from memory and from kept rows, and found by id: what the code asks. Assumes nothing.
use Rattle.std.specs.Prelude.{◌≡◌, refl, Option, Some, None, is_some, List, ℕ, ◌+◌, ◌*◌, ◌-◌, ◌%◌, ◌^◌, ◌≤◌, ◌<◌, get_or}
use Rattle.std.proofs.Common.{sym, ◌∙◌, add-zero, arith, rules}
use Rattle.rules.specs.Numbers.{most}
use Rattle.rules.specs.Lists.Found.{none, found}
use Rattle.rules.specs.Layouts.{word, long, entry}
use Rattle.rules.specs.Table.{entry_id, matching, is_found}
use Rattle.rules.specs.declared.Entry.{Entry}
use Rattle.rows.specs.Rows.{row_at, table, first_word, row_field}
use Rattle.rows.specs.Keys.{place_of, place-table, place_row, place-found, place-missing}
use Rattle.kept_entries.specs.Views.{entry_of, RowRead, entries_of}

-- ---- entry_at, entry_row

pub entry_read : (m : List ℕ) (at a b c d : ℕ) → a ≡ word m at → b ≡ word m (at + 4) → c ≡ long m (at + 8) → d ≡ long m (at + 16)
    → ◌≡◌ {A = Entry} (record { id = a; flags = b; gpa = c; size = d }) (entry m at)
unfolding entry
entry_read m at a b c d p q r s = rw (p, q, r, s)

pub row_read : (l : List ℕ) (i a b k : ℕ) → a ≡ get_or l (4 * i) 0 % 4294967296 → b ≡ get_or l (4 * i + 1) 0 % 4294967296
    → (k ≡ get_or l (4 * i + 3) 0 - get_or l (4 * i + 2) 0) × (get_or l (4 * i + 2) 0 + k < 2 ^ 64)
    → RowRead (row_at 4 l i) (record { id = a; flags = b; gpa = get_or l (4 * i + 2) 0; size = k })
row_read l i a b k p q r =
    let base : get_or (row_at 4 l i) 0 0 ≡ get_or l (4 * i) 0 = rw (row_field 4 l i 0 (omega arith), add-zero) in
    record {
      entry = rw (p, q, r.0, base, row_field 4 l i 1 (omega arith), row_field 4 l i 2 (omega arith), row_field 4 l i 3 (omega arith));
      ends = r.1;
    }

pub ruleset reading_entry = (entry_read, row_read, rules)

-- ---- find_entry

module _ (n id : ℕ) (l : List ℕ) where
  pub entry-found-at : (r : Option ℕ) → r ≡ place_of first_word id (table (λ r. r) 4 n l) → r ≡ place_of entry_id id (entries_of n l)
  entry-found-at r p = p ∙ sym (place-table entry_of 4 entry_id id first_word (λ r. refl) n l)

  -- what the place of an id says: what stands there is the one that has it, and where there is no place there is none
  module _ (o : Option ℕ) (place : o ≡ place_of entry_id id (entries_of n l)) where
    module _ (i : ℕ) (at : o ≡ Some i) where
      pub entry-place : i < n
      entry-place = place_row entry_of 4 entry_id id n l i (sym at ∙ place)

      pub entry-exists : n ≤ most → i < most
      entry-exists h = omega (arith, entry-place)

      pub entry_found : matching id (entries_of n l) ≡ found (entry_of (row_at 4 l i))
      entry_found = place-found entry_of 4 entry_id id n l i (sym at ∙ place)

    pub entry-missing : o ≡ None → matching id (entries_of n l) ≡ none
    entry-missing e = place-missing entry_of 4 entry_id id n l (sym e ∙ place)

  -- so whether there is one
  pub entry-known : (o : Option ℕ) → o ≡ place_of entry_id id (entries_of n l) → is_found (matching id (entries_of n l)) ≡ is_some o
  entry-known None p = rw (entry-missing None p refl)
  entry-known (Some i) p = rw (entry_found (Some i) p i refl)

pub ruleset finding_entry = (entry-found-at, rules)
