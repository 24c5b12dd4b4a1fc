-- The other names and the tokens that a good file says: as many as it counts, rising, each other name of a resource of section 2 that may be shared
-- and has a lower name, each token spent or bound to such a resource. Assumes nothing.
use Rattle.std.specs.Prelude.{◌≡◌, true, List, ◌∷◌}
use Rattle.std.proofs.Math.Path.{refl, ap, subst}
use Rattle.std.proofs.Common.{sym, ◌∙◌, ne_eqb}
use Prim.Native.Nat.{ℕ, zero, suc, ◌+◌}
use native.Mathlib.Omega.{arith}
use Rattle.std.proofs.Math.ListN.{length}
use Rattle.rules.specs.Numbers.{no_name}
use Rattle.rules.specs.Lists.{Found, lookup}
use Rattle.rules.specs.Lists.Found.{none, found}
use Rattle.rules.specs.Layouts.{word, long}
use Rattle.rules.specs.Names.{token_of, shareable, under}
use Rattle.rules.specs.Packets.{handle_of}
use Rattle.rules.specs.declared.Resource.{Resource}
use Rattle.rules.specs.declared.Token.{Token}
use Rattle.rules.specs.Saved.{name_bytes, token_bytes}
use Rattle.rules.specs.Loaded.{may_be_shared, loaded_names, loaded_token, loaded_tokens}
use Rattle.promises_of_packets.specs.Names.{true-not-false, found-key}
use Rattle.promises_of_packets.specs.SoundNames.{Bindable}
use Rattle.promises_of_packets.specs.Held.{Every, every-none, every-found}
use Rattle.promises_of_saving.specs.Rising.{Rises}
use Rattle.promises_of_saving.specs.GoodShared.{GoodName, GoodNames, GoodToken, GoodTokens}
use Rattle.promises_of_saving.specs.LoadedResources.{OneName}
use Rattle.promises_of_saving.specs.WrittenShared.{OtherNameOf}

-- ---- other names

-- a resource that may be shared is there
pub record SharedIs (f : Found Resource) : Type 0 where
  pub what : Resource
  pub here : f ≡ found what
  pub shape : shareable what.kind ≡ true

pub shared-is : (f : Found Resource) → may_be_shared f ≡ true → SharedIs f
shared-is none e = absurd (true-not-false (sym e))
shared-is (found r) e = record { what = r; here = refl; shape = e }

module _ (rs : List Resource) (own : Every OneName rs) (b : List ℕ) where
  module _ (at before : ℕ) (g : GoodName rs b at before) where
    pub the_shared : SharedIs (lookup handle_of (word b (at + 4)) rs)
    the_shared = shared-is (lookup handle_of (word b (at + 4)) rs) g.shared

    pub its-lowest-name : the_shared.what.lowest ≡ word b (at + 4)
    its-lowest-name =
        every-found OneName handle_of (word b (at + 4)) rs the_shared.what the_shared.here own ∙ found-key handle_of (word b (at + 4)) rs the_shared.what the_shared.here

    pub its-other-name : OtherNameOf rs (under (word b at) the_shared.what)
    its-other-name =
        record {
          free = g.free;
          below = omega (arith, its-lowest-name, g.below);
          first =
              ap (λ k. lookup handle_of k rs) its-lowest-name
              ∙ (the_shared.here ∙ ap (λ k. found (under k the_shared.what)) (found-key handle_of (word b (at + 4)) rs the_shared.what the_shared.here ∙ sym its-lowest-name));
          shared = the_shared.shape;
        }

    pub loaded-name : (n : ℕ) → loaded_names (suc n) rs b at ≡ under (word b at) the_shared.what ∷ loaded_names n rs b (at + name_bytes)
    unfolding loaded_names
    loaded-name n = rw the_shared.here

  pub length-names : (n at before : ℕ) → GoodNames n rs b at before → length (loaded_names n rs b at) ≡ n
  unfolding GoodNames loaded_names
  length-names zero at before g = refl
  length-names (suc n) at before g = ap length (loaded-name at before g.0 n) ∙ ap suc (length-names n (at + name_bytes) (word b at) g.1)

  -- "Other name 0, not rising"
  pub names-rise : (n at before : ℕ) → GoodNames n rs b at before → Rises handle_of before (loaded_names n rs b at)
  unfolding GoodNames Rises loaded_names
  names-rise zero at before g = omega arith
  names-rise (suc n) at before g =
      subst (Rises handle_of before) (sym (loaded-name at before g.0 n))
      (g.0.rises, names-rise n (at + name_bytes) (word b at) g.1)

  pub names-are-others : (n at before : ℕ) → GoodNames n rs b at before → Every (OtherNameOf rs) (loaded_names n rs b at)
  unfolding GoodNames Every loaded_names
  names-are-others zero at before g = every-none (OtherNameOf rs)
  names-are-others (suc n) at before g =
      subst (Every (OtherNameOf rs)) (sym (loaded-name at before g.0 n))
      (its-other-name at before g.0, names-are-others n (at + name_bytes) (word b at) g.1)

-- ---- tokens

pub length-tokens : (n : ℕ) (b : List ℕ) (at : ℕ) → length (loaded_tokens n b at) ≡ n
unfolding loaded_tokens
length-tokens zero b at = refl
length-tokens (suc n) b at = ap suc (length-tokens n b (at + token_bytes))

-- "Token 0 or not rising"
pub tokens-rise : (n : ℕ) (rs : List Resource) (b : List ℕ) (at before : ℕ) → GoodTokens n rs b at before → Rises token_of before (loaded_tokens n b at)
unfolding GoodTokens Rises loaded_tokens
tokens-rise zero rs b at before g = omega arith
tokens-rise (suc n) rs b at before g = (g.0.rises, tokens-rise n rs b (at + token_bytes) (long b at) g.1)

-- it is spent, or bound to a resource by its lowest name
abbrev pub SpentOrBound : List Resource → Token → Type 0
SpentOrBound rs t = (t.name ≡ no_name → ⊥) → Bindable t.name rs

module _ (rs : List Resource) (own : Every OneName rs) (b : List ℕ) where
  its-binding : (at before : ℕ) → GoodToken rs b at before → SpentOrBound rs (loaded_token b at)
  its-binding at before g some =
      let bound : may_be_shared (lookup handle_of (word b (at + 8)) rs) ≡ true = rw (ne_eqb (word b (at + 8)) no_name some) at g.bound in
      let s : SharedIs (lookup handle_of (word b (at + 8)) rs) = shared-is (lookup handle_of (word b (at + 8)) rs) bound in
      record {
        what = s.what;
        here = s.here;
        lowest = every-found OneName handle_of (word b (at + 8)) rs s.what s.here own ∙ found-key handle_of (word b (at + 8)) rs s.what s.here;
        shape = s.shape;
      }

  pub tokens-bound : (n at before : ℕ) → GoodTokens n rs b at before → Every (SpentOrBound rs) (loaded_tokens n b at)
  unfolding GoodTokens Every loaded_tokens
  tokens-bound zero at before g = every-none (SpentOrBound rs)
  tokens-bound (suc n) at before g = (its-binding at before g.0, tokens-bound n (at + token_bytes) (long b at) g.1)
