-- What form 1 has no field for: what its test asks. Assumes nothing.
use Rattle.std.specs.Prelude.{◌≡◌, Bool, not, ◌||◌, List, [], ℕ, ◌≤◌, ◌%◌, eqb, length, get_or}
use Rattle.std.proofs.Math.Path.{refl}
use Rattle.std.proofs.Math.Bool.{true, false}
use Rattle.std.proofs.Common.{⊎_elim, arith, rules}
use borrow.Author.Tests.{eq-eqb, ne_eqb, le-ltb, lt-ltb}
use Rattle.rules.specs.Numbers.{most, most_tokens}
use Rattle.words.specs.Over.{below_or_not}
use Rattle.rows.specs.Rows.{length-table}
use Rattle.kept_resources.specs.Views.{resources_of}
use Rattle.kept_tokens.specs.Views.{token_of_row, tokens_of}
use Rattle.run_state.specs.Views.{count_in, token_count_in, world_in}
use Rattle.rules.specs.Saved.{other_name_among, beyond_form_1}

-- whether the device is beyond form 1, whatever stands in the tables that this is not lent
pub record Beyond (s l : List ℕ) (b : Bool) : Type 0 where
  pub is : (e h dt ot c : List ℕ) → b ≡ beyond_form_1 (world_in s e l h dt ot c []).state

-- ---- is_beyond

-- no word for tokens, no tokens
no-tokens : (x : ℕ) → x ≡ 0 → token_count_in x ≡ 0
unfolding token_count_in
no-tokens x h = rw h

some-tokens : (x : ℕ) → (x ≡ 0 → ⊥) → token_count_in x ≡ 0 → ⊥
unfolding token_count_in
some-tokens x h e = ⊎_elim (λ p. let z : most_tokens ≡ 0 = rw (lt-ltb most_tokens x p) at e in omega arith) (λ p. h (rw (le-ltb most_tokens x p) at e)) (below_or_not most_tokens x)

module _ (s l : List ℕ) where
  pub beyond-tokens : (get_or s 32 0 ≡ 0 → ⊥) → Beyond s l true
  unfolding world_in beyond_form_1
  beyond-tokens p = record { is = λ e h dt ot c. rw (length-table token_of_row 2 (token_count_in (get_or s 32 0)) dt, ne_eqb _ _ (some-tokens (get_or s 32 0) p)) }

  module _ (detail : ℕ) (at : detail ≡ get_or s 30 0 % 4294967296) where
    pub beyond-detail : (detail ≡ 0 → ⊥) → Beyond s l true
    unfolding world_in beyond_form_1
    beyond-detail p = record { is = λ e h dt ot c. rw (← at, ne_eqb _ _ p) (either (not (eqb (length (tokens_of (token_count_in (get_or s 32 0)) dt)) 0)) (other_name_among (resources_of (count_in (get_or s 25 0)) l))) }
      where
        either : (a b : Bool) → true ≡ (a || (b || true))
        either true b = refl
        either false true = refl
        either false false = refl

    pub beyond-names : (n : ℕ) (b : Bool) → get_or s 32 0 ≡ 0 → detail ≡ 0 → (n ≡ count_in (get_or s 25 0)) × (n ≤ most)
        → b ≡ other_name_among (resources_of n l) → Beyond s l b
    unfolding world_in beyond_form_1
    beyond-names n b p q m e =
        record { is = λ e' h dt ot c. rw (length-table token_of_row 2 (token_count_in (get_or s 32 0)) dt, eq-eqb _ _ (no-tokens (get_or s 32 0) p), ← at, eq-eqb _ _ q, ← m.0, e) (alone _) }
      where
        alone : (a : Bool) → a ≡ (a || false)
        alone true = refl
        alone false = refl

pub ruleset going_beyond = (beyond-tokens, beyond-detail, beyond-names, rules)
