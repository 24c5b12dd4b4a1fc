-- What the loading of tokens asks: the token that some fields say, and the rows one after the other. Assumes nothing.
use Rattle.std.specs.Prelude.{◌≡◌, List, ◌∷◌, ℕ, zero, suc, ◌+◌, ◌*◌, ◌≤◌}
use Rattle.std.proofs.Common.{sym, ap, ◌∙◌, add-zero, suc-add, arith, rules}
use Rattle.rules.specs.Lists.{pushed}
use Rattle.rules.specs.Layouts.{word, long}
use Rattle.rules.specs.declared.Token.{Token}
use Rattle.rows.specs.Rows.{table-zero}
use Rattle.kept_tokens.specs.Views.{token_of_row, tokens_of}
use Rattle.rules.specs.Loaded.{loaded_token, loaded_tokens}

-- ---- token_at

pub says-token : (b : List ℕ) (at name token : ℕ) → name ≡ word b (at + 8) → token ≡ long b at
    → ◌≡◌ {A = Token} (record { name = name; token = token }) (loaded_token b at)
says-token b at name token e f = rw (e, f)

pub ruleset saying = (says-token, rules)

-- ---- load_tokens

-- one more, after those before it
one_more : (n : ℕ) (b : List ℕ) (at : ℕ) → loaded_tokens (n + 1) b at ≡ pushed (loaded_tokens n b at) (loaded_token b (at + 12 * n))
unfolding loaded_tokens
one_more zero b at = rw add-zero
one_more (suc n) b at =
    let far : at + 12 * suc n ≡ at + 12 + 12 * n = omega arith in
    rw (suc-add, far) (ap (λ ts. loaded_token b at ∷ ts) (one_more n b (at + 12)))

module _ (b : List ℕ) (start : ℕ) where
  pub rows_start : (l : List ℕ) → tokens_of 0 l ≡ loaded_tokens 0 b start
  unfolding loaded_tokens
  rows_start l = table-zero token_of_row 2 l

  pub rows-turn : (n at : ℕ) (l l' : List ℕ) (t : Token) → at ≡ start + 12 * n → tokens_of n l ≡ loaded_tokens n b start → t ≡ loaded_token b at
      → tokens_of (n + 1) l' ≡ pushed (tokens_of n l) t → tokens_of (n + 1) l' ≡ loaded_tokens (n + 1) b start
  rows-turn n at l l' t here inv e f = f ∙ rw (inv, e, here) (sym (one_more n b start))

  pub rows_end : (n i : ℕ) (l : List ℕ) → i ≤ n → n ≤ i → tokens_of i l ≡ loaded_tokens i b start → tokens_of n l ≡ loaded_tokens n b start
  rows_end n i l h k inv =
      let same : n ≡ i = omega arith in
      rw same inv

pub ruleset loading_rows = (rows_start, rows-turn, rows_end, rules)
