-- The theorems of specs/SavedParts.antt, and what they rest on. Assumes nothing.
use Rattle.std.specs.Prelude.{◌≡◌, refl, Bool, true, false, ◌||◌, ◌++◌, ℕ, ◌+◌, ◌≤◌, eqb, length}
use Rattle.std.proofs.Common.{sym, ap, ◌∙◌, arith}
use Rattle.std.proofs.lemmas.Bool.{eqb-false}
use Rattle.rules.specs.Numbers.{no_name, most, most_tokens}
use Rattle.rules.specs.Lists.{lookup}
use Rattle.rules.specs.Lists.Found.{found}
use Rattle.rules.specs.Names.{token_of, under}
use Rattle.rules.specs.Packets.{handle_of}
use Rattle.rules.specs.State.{State}
use Rattle.rules.specs.declared.Resource.{Resource}
use Rattle.rules.specs.declared.Token.{Token}
use Rattle.rules.specs.Saved.{is_other_name, rising, is_lowest_name, firsts_of, others_of, tokens_of}
use Rattle.rules.specs.Loaded.{may_be_shared}
use Rattle.promises_of_packets.specs.Names.{found-key}
use Rattle.promises_of_packets.specs.Held.{Every}
use Rattle.promises_of_packets.specs.SoundNames.{Bindable}
use Rattle.promises_of_saving.specs.Rising.{Rises, rising-rises, found-rising-any, rising-few, rising-every, every-of-found}
use Rattle.promises_of_saving.specs.Those.{or_else, found-in-both, if_passed, passed-found, one-part-or-other, every-of-those, all_pass, length-of-parts, those-rise, found-those}
use Rattle.promises_of_saving.specs.LoadedResources.{OneName}
use Rattle.promises_of_saving.specs.Savable.{FitsToken, Savable}
use Rattle.promises_of_saving.specs.WrittenShared.{OtherNameOf, TokenKept}
use Rattle.promises_of_saving.specs.SavedParts.{all-lowest, held, if-lowest, if-other, lowest-is-own, other-is-not-own}

-- ---- a resource under its lowest name, or under another

module _ (s : State) (v : Savable s) where
  -- ---- they are few, and rise

  pub firsts-rise : Rises handle_of 0 (firsts_of s)
  firsts-rise = those-rise is_lowest_name handle_of 0 (rising handle_of (held s v)) (rising-rises handle_of (held s v))

  pub others-rise : Rises handle_of 0 (others_of s)
  others-rise = those-rise is_other_name handle_of 0 (rising handle_of (held s v)) (rising-rises handle_of (held s v))

  pub tokens-rise : Rises token_of 0 (tokens_of s)
  tokens-rise = rising-rises token_of s.belongings.tokens

  pub few-names : length (firsts_of s) + length (others_of s) ≤ most
  few-names = omega (arith, length-of-parts is_other_name (rising handle_of (held s v)), rising-few handle_of (held s v), v.few)

  pub few-tokens : length (tokens_of s) ≤ most_tokens
  few-tokens = omega (arith, rising-few token_of s.belongings.tokens, v.tokens.few)

  pub every_first : (P : Resource → Type 0) → Every P (held s v) → Every P (firsts_of s)
  every_first P h = every-of-those is_lowest_name P (rising handle_of (held s v)) (rising-every handle_of (held s v) P h)

  pub every-other : (P : Resource → Type 0) → Every P (held s v) → Every P (others_of s)
  every-other P h = every-of-those is_other_name P (rising handle_of (held s v)) (rising-every handle_of (held s v) P h)

  pub tokens-fit : Every FitsToken (tokens_of s)
  tokens-fit = rising-every token_of s.belongings.tokens FitsToken v.fits.tokens

  -- ---- what is found in each

  found_first : (k : ℕ) → lookup handle_of k (firsts_of s) ≡ if_passed is_lowest_name (lookup handle_of k (held s v))
  found_first k =
      found-those is_lowest_name handle_of 0 (rising handle_of (held s v)) (rising-rises handle_of (held s v)) k
      ∙ ap (if_passed is_lowest_name) (found-rising-any handle_of (held s v) v.some k)

  found-other : (k : ℕ) → lookup handle_of k (others_of s) ≡ if_passed is_other_name (lookup handle_of k (held s v))
  found-other k =
      found-those is_other_name handle_of 0 (rising handle_of (held s v)) (rising-rises handle_of (held s v)) k
      ∙ ap (if_passed is_other_name) (found-rising-any handle_of (held s v) v.some k)

  pub found-token : (k : ℕ) → lookup token_of k (tokens_of s) ≡ lookup token_of k s.belongings.tokens
  found-token k = found-rising-any token_of s.belongings.tokens v.tokens.some k

  -- resources and other names are all names
  pub found_name : (k : ℕ) → lookup handle_of k (firsts_of s ++ others_of s) ≡ lookup handle_of k (held s v)
  found_name k =
      found-in-both handle_of k (firsts_of s) (others_of s)
      ∙ (ap (λ f. or_else f (lookup handle_of k (others_of s))) (found_first k)
      ∙ (ap (or_else (if_passed is_lowest_name (lookup handle_of k (held s v)))) (found-other k) ∙ one-part-or-other is_other_name (lookup handle_of k (held s v))))

  -- resources are all of them, where each has one name
  pub only-firsts : Every OneName (held s v) → (k : ℕ) → lookup handle_of k (firsts_of s) ≡ lookup handle_of k (held s v)
  only-firsts own k =
      ap (lookup handle_of k) (all_pass is_lowest_name (rising handle_of (held s v)) (all-lowest (rising handle_of (held s v)) (rising-every handle_of (held s v) OneName own)))
      ∙ found-rising-any handle_of (held s v) v.some k

  -- ---- they keep the rules

  pub firsts-own : Every OneName (firsts_of s)
  firsts-own =
      every-of-found handle_of OneName 0 (firsts_of s) firsts-rise
      (λ r e. lowest-is-own r (passed-found is_lowest_name (lookup handle_of r.handle (held s v)) r (sym (found_first r.handle) ∙ e)).1)

  -- a lowest name is found among them
  first_of : (r : Resource) (k : ℕ) → lookup handle_of k (held s v) ≡ found r → lookup handle_of r.lowest (firsts_of s) ≡ found (under r.lowest r)
  first_of r k e =
      found_first r.lowest ∙ (ap (if_passed is_lowest_name) (v.names.lowest k r e) ∙ if-lowest (under r.lowest r) refl)

  pub others-are : Every (OtherNameOf (firsts_of s)) (others_of s)
  others-are = every-of-found handle_of (OtherNameOf (firsts_of s)) 0 (others_of s) others-rise each
    where
      each : (r : Resource) → lookup handle_of r.handle (others_of s) ≡ found r → OtherNameOf (firsts_of s) r
      each r e =
          let p = passed-found is_other_name (lookup handle_of r.handle (held s v)) r (sym (found-other r.handle) ∙ e) in
          let other : r.handle ≡ r.lowest → ⊥ = other-is-not-own r p.1 in
          record {
            free = found_first r.handle ∙ (ap (if_passed is_lowest_name) p.0 ∙ if-other r p.1);
            below = omega (arith, v.names.least r.handle r p.0);
            first = first_of r r.handle p.0;
            shared = v.names.shared r.handle r p.0 (λ u. other (sym u));
          }

  pub tokens-are : Every (TokenKept (firsts_of s)) (tokens_of s)
  tokens-are = every-of-found token_of (TokenKept (firsts_of s)) 0 (tokens_of s) tokens-rise each
    where
      bound : (n : ℕ) → Bindable n (held s v) → may_be_shared (lookup handle_of n (firsts_of s)) ≡ true
      bound n b =
          ap may_be_shared
          (found_first n
          ∙ (ap (if_passed is_lowest_name) b.here ∙ if-lowest b.what (b.lowest ∙ sym (found-key handle_of n (held s v) b.what b.here))))
          ∙ b.shape

      by_name : (t : Token) → lookup token_of t.token s.belongings.tokens ≡ found t → (u : Bool) → eqb t.name no_name ≡ u
          → u || may_be_shared (lookup handle_of t.name (firsts_of s)) ≡ true
      by_name t e true h = refl
      by_name t e false h = bound t.name (v.tokens.bound-to t.token t e (eqb-false t.name no_name h))

      each : (t : Token) → lookup token_of t.token (tokens_of s) ≡ found t → TokenKept (firsts_of s) t
      each t e = by_name t (sym (found-token t.token) ∙ e) (eqb t.name no_name) refl
