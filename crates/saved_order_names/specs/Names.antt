-- Other names and lowest names among rows: what finding and keeping them asks. Assumes nothing.
use Rattle.std.specs.Prelude.{◌≡◌, refl, Bool, true, false, not, List, [], ◌∷◌, ◌++◌, ℕ, ◌+◌, ◌≤◌, ◌<◌, eqb, length, get_or, set}
use Rattle.std.proofs.Math.Path.{sym}
use Rattle.std.proofs.Common.{ap, ◌∙◌, append-nil, arith, rules, length-set}
use Rattle.machine.specs.Machine.{pick}
use Rattle.rules.specs.Numbers.{most}
use Rattle.rules.specs.Saved.{is_other_name, other_name_among, is_lowest_name, those}
use Rattle.rules.specs.declared.Resource.{Resource}
use Rattle.rows.specs.Rows.{row_at, tab, table_from, from_first, from-none, from_zero}
use Rattle.kept_resources.specs.Views.{resource_of_row, resources_of}
use Rattle.saved_order.specs.Orders.{Rows, listed, resources_listed, listed_suc, listed-set, set_there}

-- ---- is_other, has_other_name

pub other-is : (l : List ℕ) (i handle lowest : ℕ) → handle ≡ (resource_of_row (row_at 12 l i)).handle → lowest ≡ (resource_of_row (row_at 12 l i)).lowest
    → not (eqb handle lowest) ≡ is_other_name (resource_of_row (row_at 12 l i))
other-is l i handle lowest a b = rw (a, b)

-- the rows before row i have no other name
pub record SingleTo (n : ℕ) (l : List ℕ) (i : ℕ) : Type 0 where
  pub left : other_name_among (resources_of n l) ≡ other_name_among (table_from resource_of_row 12 i n l)

module _ (n : ℕ) (l : List ℕ) where
  pub names-start : SingleTo n l 0
  names-start = record { left = rw (from_zero resource_of_row 12 n l) }

  module _ (i : ℕ) (so_far : SingleTo n l i) where
    pub names-end : n ≤ i → false ≡ other_name_among (resources_of n l)
    unfolding other_name_among
    names-end h = sym (so_far.left ∙ rw (from-none resource_of_row 12 i n l h))

    module _ (h : i < n) (t : Bool) (is : t ≡ is_other_name (resource_of_row (row_at 12 l i))) where
      pub names-other : t ≡ true → true ≡ other_name_among (resources_of n l)
      unfolding other_name_among
      names-other q = sym (so_far.left ∙ rw (from_first resource_of_row 12 i n l h, ← is, q))

      pub names-next : t ≡ false → SingleTo n l (i + 1)
      unfolding other_name_among
      names-next q = record { left = so_far.left ∙ rw (from_first resource_of_row 12 i n l h, ← is, q) }

pub ruleset naming_others = (other-is, names-start, names-end, names-other, names-next, rules)

-- ---- is_asked

-- other names, or lowest ones
abbrev pub asked : Bool → Resource → Bool
asked true = is_other_name
asked false = is_lowest_name

module _ (others t : Bool) (r : Resource) (is : t ≡ is_other_name r) where
  pub asked-others : others ≡ true → t ≡ asked others r
  asked-others p = rw (p, is)

  pub asked-lowest : others ≡ false → not t ≡ asked others r
  asked-lowest p = rw (p, is)

pub ruleset asking = (asked-others, asked-lowest, rules)

-- ---- keep_rows

-- the kept rows are there, and what they say are those of the listed that are asked for
pub record Keeps (others : Bool) (l order : List ℕ) (count : ℕ) (kept : List ℕ) (found : ℕ) : Type 0 where
  pub rows : Rows most kept found
  pub keeps : resources_listed found l kept ≡ those (asked others) (resources_listed count l order)

-- the same of an order's first i
pub record KeepsTo (others : Bool) (l order : List ℕ) (i : ℕ) (kept : List ℕ) (found : ℕ) : Type 0 where
  pub long : length kept ≡ most
  pub there : (j : ℕ) → j < found → get_or kept j 0 < most
  pub keeps : resources_listed found l kept ≡ those (asked others) (resources_listed i l order)

those-snoc : {A : Type 0} (test : A → Bool) (xs : List A) (x : A) → those test (xs ++ (x ∷ [])) ≡ those test xs ++ pick (test x) (x ∷ []) []
unfolding those
those-snoc test [] x = refl
those-snoc {A} test (y ∷ xs) x = rw (those-snoc test xs x) (after (test y))
  where
    after : (t : Bool) → pick t (y ∷ (those test xs ++ pick (test x) (x ∷ []) [])) (those test xs ++ pick (test x) (x ∷ []) [])
        ≡ pick t (y ∷ those test xs) (those test xs) ++ pick (test x) (x ∷ []) []
    after true = refl
    after false = refl

pub keep-start : (others : Bool) (l order kept : List ℕ) → length kept ≡ 64 → KeepsTo others l order 0 kept 0
unfolding those listed tab
keep-start others l order kept long = record { long = long; there = λ j h. absurd (omega arith); keeps = refl }

module _ (others : Bool) (l order : List ℕ) (count : ℕ) (pre : Rows most order count) (i found : ℕ) (kept : List ℕ) (to : KeepsTo others l order i kept found) where
  pub keep-reads : i < count → get_or order i 0 < most
  keep-reads h = pre.there i h

  pub keep-room : i < count → found ≤ i → found < length kept
  keep-room h g = omega (arith, to.long, pre.few)

  pub keep-end : i ≤ count → count ≤ i → found ≤ i → Keeps others l order count kept found
  keep-end h q g =
      let e : i ≡ count = omega arith in
      record {
        rows = record { few = omega (arith, pre.few); there = to.there };
        keeps = to.keeps ∙ ap (λ n. those (asked others) (resources_listed n l order)) e;
      }

  module _ (h : i < count) (t : Bool) (is : t ≡ asked others (resource_of_row (row_at 12 l (get_or order i 0)))) where
    one_more : those (asked others) (resources_listed (i + 1) l order) ≡ those (asked others) (resources_listed i l order) ++ pick t (resource_of_row (row_at 12 l (get_or order i 0)) ∷ []) []
    one_more =
        ap (those (asked others)) (listed_suc resource_of_row 12 i l order)
        ∙ (those-snoc (asked others) (resources_listed i l order) (resource_of_row (row_at 12 l (get_or order i 0))) ∙ rw (← is))

    pub keep_one : t ≡ true → found ≤ i → KeepsTo others l order (i + 1) (set kept found (get_or order i 0)) (found + 1)
    keep_one q g =
        record {
          long = rw length-set to.long;
          there = set_there kept found (get_or order i 0) (keep-room h g) most (pre.there i h) to.there;
          keeps = listed-set kept found (get_or order i 0) (keep-room h g) resource_of_row 12 l ∙ sym (one_more ∙ rw (q, to.keeps));
        }

    pub keep-none : t ≡ false → KeepsTo others l order (i + 1) kept found
    keep-none q = record { long = to.long; there = to.there; keeps = to.keeps ∙ sym (one_more ∙ rw q (append-nil (those (asked others) (resources_listed i l order)))) }

pub ruleset keeping = (keep-start, keep-reads, keep-room, keep-end, keep_one, keep-none, rules)
