-- What the form and the number of a file ask: a law for each end. Assumes nothing.
use Rattle.std.specs.Prelude.{◌≡◌, refl, Bool, true, false, List, ℕ, ◌≤◌, ◌<◌, length}
use Rattle.std.proofs.Math.Path.{sym}
use Rattle.std.proofs.Common.{◌∙◌, arith, rules}
use borrow.Author.Tests.{eq-eqb, ne_eqb, ltb-false}
use Rattle.rules.specs.Loaded.{missing, first_field, form_in, before_sections}
use Rattle.saved_fields.specs.Judging.{seen}
use Rattle.rules.specs.declared.Form.TheVariants.{One, Two}

-- ---- form_in, before_sections

module _ (b : List ℕ) (n : ℕ) (is : n ≡ seen b 0) where
  first : first_field b ≡ n
  unfolding first_field
  first = sym is

  pub is-form-2 : n ≡ 2 → Two ≡ form_in b
  is-form-2 e = rw (first, eq-eqb n 2 e)

  pub is-form-1 : (n ≡ 2 → ⊥) → One ≡ form_in b
  is-form-1 e = rw (first, ne_eqb n 2 e)

  pub numbered-1 : n ≡ 1 → 4 ≡ before_sections b
  unfolding before_sections
  numbered-1 e = rw (first, eq-eqb n 1 e)

  pub numbered-2 : (n ≡ 1 → ⊥) → n ≡ 2 → 4 ≡ before_sections b
  unfolding before_sections
  numbered-2 e f = rw (first, ne_eqb n 1 e, eq-eqb n 2 f)

  pub not-numbered : (n ≡ 1 → ⊥) → (n ≡ 2 → ⊥) → 0 ≡ before_sections b
  unfolding before_sections
  not-numbered e f = rw (first, ne_eqb n 1 e, ne_eqb n 2 f)

  -- a number that is not 0 is all there
  number-there : 0 < n → 4 ≤ length b
  number-there some = by (missing b 0) refl
    where
      by : (v : Bool) → missing b 0 ≡ v → 4 ≤ length b
      by true g =
          let zero : n ≡ 0 = is ∙ rw g in
          absurd (omega arith)
      by false g = ltb-false (length b) 4 g

  pub number-there-1 : n ≡ 1 → 4 ≤ length b
  number-there-1 e = number-there (omega arith)

  pub number-there-2 : n ≡ 2 → 4 ≤ length b
  number-there-2 e = number-there (omega arith)

pub ruleset forming = (is-form-2, is-form-1, numbered-1, numbered-2, not-numbered, number-there-1, number-there-2, rules)
