-- What changing lowest names and seeking the lowest name left ask: a law for each way to a return. Assumes nothing.
use Rattle.std.specs.Prelude.{◌≡◌, refl, Bool, true, false, List, [], ◌∷◌, ℕ, zero, suc, ◌+◌, ◌*◌, ◌-◌, ◌≤◌, ◌<◌, ◌%◌, ◌^◌, eqb, length, get_or, set}
use Rattle.std.proofs.Common.{sym, ap, ◌∙◌, ⊎_elim, mod-eq_of_lt, add-zero, rules, eq-eqb, ne_eqb, lt-ltb, le-ltb, get_or-set_same, get_or-set_other}
use native.Mathlib.Omega.{arith}
use Rattle.machine.specs.Machine.{pick}
use Rattle.rules.specs.Numbers.{most}
use Rattle.rules.specs.Names.{shareable, rename, renamed, with_lowest, lower_of, lowest_left}
use Rattle.rules.specs.declared.Kind.{Kind}
use Rattle.rules.specs.declared.Kind.TheVariants.{Buffer, Texture}
use Rattle.rules.specs.declared.Shape.{Shape}
use Rattle.rules.specs.declared.Resource.{Resource}
use Rattle.rows.specs.Rows.{row_at, table, table_from, tab, tab-ext, row_field, length-row_at, from_first, from-none, from_zero}
use Rattle.rows.specs.Keys.{same_or_not}
use Rattle.rows_renaming.specs.Renaming.{word_renamed, rows_renamed, table-renamed}
use Rattle.kept_resources.specs.Views.{small, resource_of_row, resources_of}

-- ---- rename

-- the row of a resource, with its word for the lowest name changed
row-with-lowest : (old new : ℕ) (r : List ℕ) → new < 2 ^ 32 → length r ≡ 12 → resource_of_row (word_renamed 11 old new r) ≡ with_lowest (renamed old new (small r 11)) (resource_of_row r)
unfolding word_renamed
row-with-lowest old new r fits long = by_test (eqb (get_or r 11 0 % 2 ^ 32) old)
  where
    other : (k : ℕ) → k < 11 → get_or (set r 11 new) k 0 ≡ get_or r k 0
    other k h = get_or-set_other r 11 k new 0 (λ p. omega arith)

    by_test : (t : Bool) → resource_of_row (pick t (set r 11 new) r) ≡ with_lowest (pick t new (small r 11)) (resource_of_row r)
    by_test true =
        rw (get_or-set_same r 11 new 0 (omega arith), mod-eq_of_lt fits, other 0 (omega arith), other 1 (omega arith), other 2 (omega arith), other 3 (omega arith), other 4 (omega arith), other 5 (omega arith), other 6 (omega arith), other 7 (omega arith), other 8 (omega arith), other 9 (omega arith), other 10 (omega arith))
    by_test false = refl

tab-rename : (old new : ℕ) (row : ℕ → Resource) (i n : ℕ) → rename old new (tab row i n) ≡ tab (λ k. with_lowest (renamed old new (row k).lowest) (row k)) i n
unfolding rename tab
tab-rename old new row i zero = refl
tab-rename old new row i (suc n) = rw (tab-rename old new row (suc i) n)

row_fits : (k n : ℕ) (l : List ℕ) → k < n → n ≤ most → length l ≡ 768 → 12 * k + 12 ≤ length l
row_fits k n l h m len = omega arith

pub renames : (n old new : ℕ) (l m : List ℕ) → n ≤ most → new < 2 ^ 32 → length l ≡ 768 → m ≡ rows_renamed 12 11 old new n l
    → resources_of n m ≡ rename old new (resources_of n l)
unfolding table
renames n old new l m h fits len e =
    rw e
    (table-renamed 12 11 old new (omega arith) resource_of_row n l (omega arith)
    ∙ (tab-ext _ _ 0 n (λ k p q. row-with-lowest old new (row_at 12 l k) fits (length-row_at 12 l k (row_fits k n l (omega arith) h len)))
    ∙ sym (tab-rename old new (λ k. resource_of_row (row_at 12 l k)) 0 n)))

pub ruleset renaming_resource = (renames, rules)

-- ---- lower_name, lowest_left

-- the lowest name by a row, and by the rows after it
abbrev pub with_row : ℕ → ℕ → List ℕ → ℕ
with_row low best r = pick (eqb (small r 11) low) (lower_of (small r 0) best) best

module _ (low best i v : ℕ) (l : List ℕ) (is : v ≡ get_or l (12 * i + 11) 0 % 4294967296) where
  lowest-at : small (row_at 12 l i) 11 ≡ v
  lowest-at = rw (row_field 12 l i 11 (omega arith)) (sym is)

  pub row-of-another : (v ≡ low → ⊥) → best ≡ with_row low best (row_at 12 l i)
  row-of-another p = rw (lowest-at, ne_eqb _ _ p)

  module _ (p : v ≡ low) (h : ℕ) (at : h ≡ get_or l (12 * i) 0 % 4294967296) where
    handle-at : small (row_at 12 l i) 0 ≡ h
    handle-at = rw (row_field 12 l i 0 (omega arith), add-zero) (sym at)

    pub row_first : best ≡ 0 → h ≡ with_row low best (row_at 12 l i)
    row_first q = rw (lowest-at, handle-at, eq-eqb _ _ p, eq-eqb _ _ q)

    pub row-higher : (best ≡ 0 → ⊥) → best ≤ h → best ≡ with_row low best (row_at 12 l i)
    row-higher q r = rw (lowest-at, handle-at, eq-eqb _ _ p, ne_eqb _ _ q, le-ltb _ _ r)

    pub row-lower : (best ≡ 0 → ⊥) → h < best → h ≡ with_row low best (row_at 12 l i)
    row-lower q r = rw (lowest-at, handle-at, eq-eqb _ _ p, ne_eqb _ _ q, lt-ltb _ _ r)

pub ruleset lower_naming = (row-of-another, row_first, row-higher, row-lower, rules)

module _ (low n : ℕ) (l : List ℕ) where
  pub lowest-none : 0 ≡ lowest_left low (table_from resource_of_row 12 n n l)
  unfolding lowest_left
  lowest-none = rw (from-none resource_of_row 12 n n l (omega arith))

  pub lowest-next : (i best r : ℕ) → best ≡ lowest_left low (table_from resource_of_row 12 i n l) → i ≤ n → 0 < i → r ≡ with_row low best (row_at 12 l (i - 1))
      → r ≡ lowest_left low (table_from resource_of_row 12 (i - 1) n l)
  unfolding lowest_left
  lowest-next i best r so_far h p e =
      let s : i ≡ i - 1 + 1 = omega arith in
      rw (e, from_first resource_of_row 12 (i - 1) n l (omega arith), ← s, ← so_far)

  pub lowest-all : (i best : ℕ) → best ≡ lowest_left low (table_from resource_of_row 12 i n l) → i ≤ 0 → best ≡ lowest_left low (resources_of n l)
  lowest-all i best so_far h =
      let s : i ≡ 0 = omega arith in
      so_far ∙ rw (s, from_zero resource_of_row 12 n l)

pub ruleset lowest_naming = (lowest-none, lowest-next, lowest-all, rules)

-- ---- shareable

pub buffer-not-shared : (k : Kind) → k ≡ Buffer → false ≡ shareable k
buffer-not-shared k e = rw e

module _ (k : Kind) (s : Shape) (e : k ≡ Texture s) where
  pub mips-not-shared : (s.mips ≡ 1 → ⊥) → false ≡ shareable k
  mips-not-shared p = rw (e, ne_eqb _ _ p)

  pub layers-shared : s.mips ≡ 1 → eqb s.layers 1 ≡ shareable k
  layers-shared p = rw (e, eq-eqb _ _ p)

pub ruleset sharing = (buffer-not-shared, mips-not-shared, layers-shared, rules)

-- ---- rename_left

-- a name that becomes itself changes nothing
pub rename-same : (n : ℕ) (rs : List Resource) → rename n n rs ≡ rs
unfolding rename
rename-same n [] = refl
rename-same n (r ∷ rs) = rw (rename-same n rs) (ap {B = List Resource} (λ k. with_lowest k r ∷ rs) (itself r.lowest))
  where
    itself : (k : ℕ) → renamed n n k ≡ k
    itself k = ⊎_elim (λ q. rw (eq-eqb k n q) (sym q)) (λ q. rw (ne_eqb k n q)) (same_or_not k n)

-- the lowest name that is left, and all names with it
pub record RenamesLeft (n low : ℕ) (before : List ℕ) (r : ℕ) (after : List ℕ) : Type 0 where
  pub lowest : r ≡ lowest_left low (resources_of n before)
  pub names : resources_of n after ≡ rename low (lowest_left low (resources_of n before)) (resources_of n before)

module _ (n low r : ℕ) (l : List ℕ) (is : r ≡ lowest_left low (resources_of n l)) where
  pub left-changed : (m : List ℕ) → resources_of n m ≡ rename low r (resources_of n l) → RenamesLeft n low l r m
  left-changed m e = record { lowest = is; names = e ∙ ap (λ k. rename low k (resources_of n l)) is }

  pub left-same : r ≡ low → RenamesLeft n low l r l
  left-same e = record { lowest = is; names = sym (ap (λ k. rename low k (resources_of n l)) (sym is ∙ e) ∙ rename-same low (resources_of n l)) }

pub ruleset renaming_left = (left-changed, left-same, rules)
