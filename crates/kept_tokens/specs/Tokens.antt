-- Rows of tokens: what reading and finding one ask. Assumes nothing.
use Rattle.std.specs.Prelude.{◌≡◌, refl, Option, Some, None, is_some, Bool, false, List, [], ◌∷◌, ℕ, suc, ◌+◌, ◌-◌, ◌*◌, ◌%◌, ◌≤◌, ◌<◌, ltb, length, get_or}
use Rattle.std.proofs.Common.{sym, ap, ◌∙◌, ⊎_elim, add-zero, arith, rules, ne_eqb, ltb-false}
use Rattle.rules.specs.Numbers.{most_tokens}
use Rattle.rules.specs.Lists.{index_of, lookup}
use Rattle.rules.specs.Lists.Found.{none, found}
use Rattle.rules.specs.Names.{token_of, rebind}
use Rattle.rules.specs.declared.Token.{Token}
use Rattle.rows.specs.Rows.{row_at, table, first_word, row_field, get_or-table}
use Rattle.rows.specs.Keys.{same_or_not, index-here, index-later, index_key, place_of, place-some, place-known, place-table, place_row, place-found, place-missing}
use Rattle.rows_finding.specs.Among.{key_in, eight-left}
use Rattle.kept_tokens.specs.Views.{token_of_row, tokens_of}

abbrev pub name_of : Token → ℕ
name_of t = t.name

-- ---- token_row

pub token-read : (l : List ℕ) (i a : ℕ) → a ≡ get_or l (2 * i) 0 % 4294967296 → ◌≡◌ {A = Token} (record { name = a; token = get_or l (2 * i + 1) 0 }) (token_of_row (row_at 2 l i))
token-read l i a p =
    let base : get_or (row_at 2 l i) 0 0 ≡ get_or l (2 * i) 0 = rw (row_field 2 l i 0 (omega arith), add-zero) in
    rw (p, base, row_field 2 l i 1 (omega arith))

pub ruleset reading_token = (token-read, rules)

-- ---- find_token

pub token-room : (i n : ℕ) → n ≤ most_tokens → i ≤ n → (n - i) % 8 ≡ 0 → (i ≡ n → ⊥) → i + 8 ≤ most_tokens
token-room i n m g e h = omega (arith, eight-left i n (g, e) h)

module _ (n k : ℕ) (l : List ℕ) where
  pub token_found_at : (r : Option ℕ) → r ≡ place_of (key_in 1 (λ x. x)) k (table (λ r. r) 2 n l) → r ≡ place_of token_of k (tokens_of n l)
  token_found_at r p = p ∙ sym (place-table token_of_row 2 token_of k (key_in 1 (λ x. x)) (λ r. refl) n l)

  -- what the place of a token says: what stands there is the one that has it, and where there is no place there is none
  module _ (o : Option ℕ) (place : o ≡ place_of token_of k (tokens_of n l)) where
    module _ (i : ℕ) (at : o ≡ Some i) where
      pub token-place : i < n
      token-place = place_row token_of_row 2 token_of k n l i (sym at ∙ place)

      pub token-exists : n ≤ most_tokens → i < most_tokens
      token-exists h = omega (arith, token-place)

      pub token-found : lookup token_of k (tokens_of n l) ≡ found (token_of_row (row_at 2 l i))
      token-found = place-found token_of_row 2 token_of k n l i (sym at ∙ place)

      -- it has that token
      pub token-at : (token_of_row (row_at 2 l i)).token ≡ k
      token-at =
          let here : (i ≡ index_of token_of k (tokens_of n l)) × (i < length (tokens_of n l)) = place-some token_of k i (tokens_of n l) (sym at ∙ place) in
          let d : Token = token_of_row (row_at 2 l i) in
          sym (ap token_of (get_or-table token_of_row 2 n l i d token-place))
          ∙ (ap (λ j. token_of (get_or (tokens_of n l) j d)) here.0 ∙ index_key token_of k (tokens_of n l) d (omega arith))

    pub token-missing : o ≡ None → lookup token_of k (tokens_of n l) ≡ none
    token-missing e = place-missing token_of_row 2 token_of k n l (sym e ∙ place)

pub ruleset finding_token = (token_found_at, rules)

-- ---- is_bound

-- whether a token has a name
abbrev pub is_bound : ℕ → List Token → Bool
is_bound name ts = ltb (index_of name_of name ts) (length ts)

pub bound-found : (n k : ℕ) (l : List ℕ) (r : Option ℕ) (b : Bool) → r ≡ place_of first_word k (table (λ r. r) 2 n l) → b ≡ is_some r → b ≡ is_bound k (tokens_of n l)
bound-found n k l r b p q = rw (q, p, ← place-table token_of_row 2 name_of k first_word (λ r. refl) n l) (place-known name_of k (tokens_of n l))

pub ruleset finding_bound = (bound-found, rules)

-- where no token has the name, nothing changes once it is another
rebind-absent : (old new : ℕ) (ts : List Token) → length ts ≤ index_of name_of old ts → rebind old new ts ≡ ts
unfolding rebind
rebind-absent old new [] h = refl
rebind-absent old new (t ∷ ts) h =
    ⊎_elim
    (λ q. absurd (let e : index_of name_of old (t ∷ ts) ≡ 0 = index-here name_of old t ts q in omega arith))
    (λ q.
    let e : index_of name_of old (t ∷ ts) ≡ suc (index_of name_of old ts) = index-later name_of old t ts q in
    rw (ne_eqb _ _ q, rebind-absent old new ts (omega arith)))
    (same_or_not t.name old)

pub rebind-unbound : (old new : ℕ) (ts : List Token) → is_bound old ts ≡ false → rebind old new ts ≡ ts
rebind-unbound old new ts h = rebind-absent old new ts (ltb-false _ _ h)
