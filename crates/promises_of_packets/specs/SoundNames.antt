-- What is true of names and tokens, whatever packets came (02, wish 5): the lowest name of a resource is live and means the same resource, only a
-- texture of one mip and one layer has two names or a token, and a token is spent or has the lowest name of a live resource. A create, a destroy,
-- an import, an export and a release keep it. Assumes nothing.
use Rattle.std.specs.Prelude.{◌≡◌, refl, Bool, true, false, List, [], ◌⊎◌, ℕ, ◌≤◌, ◌<◌, ltb, eqb, length}
use Rattle.std.proofs.Common.{sym, ap, subst, ◌∙◌, inl, inr, ⊎_elim, arith, ltb-true, ltb-false}
use Rattle.std.proofs.lemmas.Bool.{eqb-false}
use Rattle.machine.specs.Machine.{pick}
use Rattle.rules.specs.Numbers.{most_tokens, no_name}
use Rattle.rules.specs.Lists.{Found, lookup, index_of, removed}
use Rattle.rules.specs.Lists.Found.{none, found}
use Rattle.rules.specs.Names.{token_of, shareable, with_lowest, under, lower, lowest_left, renamed}
use Rattle.rules.specs.Packets.{handle_of, bound_in, bound}
use Rattle.rules.specs.declared.Resource.{Resource}
use Rattle.rules.specs.declared.Token.{Token}
use Rattle.rows.specs.Keys.{same_or_not, Once, once-nil, lookup-nil}
use Rattle.promises_of_packets.specs.Names.{none-not-found, found-same, in_found, moved, rebound, renamed-own, renamed-other, moved-own, moved_other}

-- ---- names

pub record SoundNames (rs : List Resource) : Type 0 where
  -- the lowest name of a resource is live, and is the same resource
  pub lowest : (k : ℕ) (r : Resource) → lookup handle_of k rs ≡ found r → lookup handle_of r.lowest rs ≡ found (under r.lowest r)
  -- no name of it is lower
  pub least : (k : ℕ) (r : Resource) → lookup handle_of k rs ≡ found r → r.lowest ≤ k
  -- one that has another name is "a texture with one mip and one layer"
  pub shared : (k : ℕ) (r : Resource) → lookup handle_of k rs ≡ found r → (r.lowest ≡ k → ⊥) → shareable r.kind ≡ true

-- ---- tokens

-- a name that a token may have: the lowest of a live resource that may be shared
pub record Bindable (n : ℕ) (rs : List Resource) : Type 0 where
  pub what : Resource
  pub here : lookup handle_of n rs ≡ found what
  pub lowest : what.lowest ≡ n
  pub shape : shareable what.kind ≡ true

pub record SoundTokens (rs : List Resource) (ts : List Token) : Type 0 where
  -- "At most 256 tokens"
  pub few : length ts ≤ most_tokens
  -- none was used twice
  pub once : Once token_of ts
  -- none is 0
  pub some : lookup token_of 0 ts ≡ none
  -- each is spent, or bound to a live resource
  pub bound-to : (token : ℕ) (t : Token) → lookup token_of token ts ≡ found t → (t.name ≡ no_name → ⊥) → Bindable t.name rs

pub no-tokens : (rs : List Resource) → SoundTokens rs []
no-tokens rs =
    record {
      few = omega arith;
      once = once-nil token_of;
      some = lookup-nil token_of 0;
      bound-to = λ token t e. absurd (none-not-found t (sym (lookup-nil token_of token) ∙ e));
    }

-- ---- a resource whose lowest name changes

-- names that are sound once the resource with the lowest name `low` is called `new`
pub record SoundBut (low new : ℕ) (rs : List Resource) : Type 0 where
  pub lowest : (k : ℕ) (r : Resource) → lookup handle_of k rs ≡ found r → (r.lowest ≡ low → ⊥) → lookup handle_of r.lowest rs ≡ found (under r.lowest r)
  pub least : (k : ℕ) (r : Resource) → lookup handle_of k rs ≡ found r → (r.lowest ≡ low → ⊥) → r.lowest ≤ k
  pub shared : (k : ℕ) (r : Resource) → lookup handle_of k rs ≡ found r → (r.lowest ≡ low → ⊥) → (r.lowest ≡ k → ⊥) → shareable r.kind ≡ true
  pub its-lowest : (k : ℕ) (r : Resource) → lookup handle_of k rs ≡ found r → r.lowest ≡ low → lookup handle_of new rs ≡ found (with_lowest low (under new r))
  pub its-least : (k : ℕ) (r : Resource) → lookup handle_of k rs ≡ found r → r.lowest ≡ low → new ≤ k
  pub its-shared : (k : ℕ) (r : Resource) → lookup handle_of k rs ≡ found r → r.lowest ≡ low → (new ≡ k → ⊥) → shareable r.kind ≡ true

module _ (low new : ℕ) (rs after : List Resource) (names : (k : ℕ) → lookup handle_of k after ≡ in_found (moved low new) (lookup handle_of k rs)) where
  -- what is found after it was found before it
  found_before : (k : ℕ) (r' : Resource) → lookup handle_of k after ≡ found r' → (r : Resource) × (lookup handle_of k rs ≡ found r) × (moved low new r ≡ r')
  found_before k r' e = by_found (lookup handle_of k rs) refl (sym (names k) ∙ e)
    where
      by_found : (f : Found Resource) → lookup handle_of k rs ≡ f → in_found (moved low new) f ≡ found r' → (r : Resource) × (lookup handle_of k rs ≡ found r) × (moved low new r ≡ r')
      by_found none h i = absurd (none-not-found r' i)
      by_found (found r) h i = (r, h, found-same i)

  -- and a name that is of another resource means what it meant
  pub other_name : (k : ℕ) (r : Resource) → lookup handle_of k rs ≡ found r → (r.lowest ≡ low → ⊥) → lookup handle_of k after ≡ found r
  other_name k r e n = names k ∙ (ap (in_found (moved low new)) e ∙ ap found (moved_other low new r n))

  pub own_name : (k : ℕ) (r : Resource) → lookup handle_of k rs ≡ found r → r.lowest ≡ low → lookup handle_of k after ≡ found (with_lowest new r)
  own_name k r e h = names k ∙ (ap (in_found (moved low new)) e ∙ ap found (moved-own low new r h))

  pub bindable-stays : (n : ℕ) (r : Resource) → lookup handle_of n rs ≡ found r → r.lowest ≡ n → shareable r.kind ≡ true → (n ≡ low → ⊥) → Bindable n after
  bindable-stays n r e l h other = record { what = r; here = other_name n r e (λ u. other (sym l ∙ u)); lowest = l; shape = h }

  module _ (s : SoundBut low new rs) where
    -- of each name, by its resource: the one that changed, or another
    pub by_resource : (P : ℕ → Resource → Type 0)
        → ((k : ℕ) (r : Resource) → lookup handle_of k rs ≡ found r → r.lowest ≡ low → P k (with_lowest new r))
        → ((k : ℕ) (r : Resource) → lookup handle_of k rs ≡ found r → (r.lowest ≡ low → ⊥) → P k r)
        → (k : ℕ) (r' : Resource) → lookup handle_of k after ≡ found r' → P k r'
    by_resource P own other k r' e =
        let b : (r : Resource) × (lookup handle_of k rs ≡ found r) × (moved low new r ≡ r') = found_before k r' e in
        subst (P k) b.2
        (⊎_elim
        (λ h. subst (P k) (sym (moved-own low new b.0 h)) (own k b.0 b.1 h))
        (λ h. subst (P k) (sym (moved_other low new b.0 h)) (other k b.0 b.1 h))
        (same_or_not b.0.lowest low))

    -- names of two resources stay so: no other has the new lowest name
    pub apart-stays : (a b : ℕ) (x y : Resource) → lookup handle_of a rs ≡ found x → lookup handle_of b rs ≡ found y
        → renamed low new x.lowest ≡ renamed low new y.lowest → x.lowest ≡ y.lowest
    apart-stays a b x y e f same = by_names (same_or_not x.lowest low) (same_or_not y.lowest low)
      where
        -- the new lowest name of the one is none of the other's
        mixed : (a b : ℕ) (x y : Resource) → lookup handle_of a rs ≡ found x → lookup handle_of b rs ≡ found y → x.lowest ≡ low → (y.lowest ≡ low → ⊥) → new ≡ y.lowest → ⊥
        mixed a b x y e f own other u =
            other (ap (λ (z : Resource). z.lowest) (found-same (sym (s.lowest b y f other) ∙ (ap (λ i. lookup handle_of i rs) (sym u) ∙ s.its-lowest a x e own))))

        by_names : (x.lowest ≡ low) ⊎ (x.lowest ≡ low → ⊥) → (y.lowest ≡ low) ⊎ (y.lowest ≡ low → ⊥) → x.lowest ≡ y.lowest
        by_names (inl p) (inl q) = p ∙ sym q
        by_names (inl p) (inr q) = absurd (mixed a b x y e f p q (sym (renamed-own low new x.lowest p) ∙ (same ∙ renamed-other low new y.lowest q)))
        by_names (inr p) (inl q) = absurd (mixed b a y x f e q p (sym (renamed-own low new y.lowest q) ∙ (sym same ∙ renamed-other low new x.lowest p)))
        by_names (inr p) (inr q) = sym (renamed-other low new x.lowest p) ∙ (same ∙ renamed-other low new y.lowest q)

-- and the tokens with it
module _ (low new : ℕ) (rs after : List Resource) (ts after-ts : List Token) (s : SoundTokens rs ts)
    (tokens : (token : ℕ) → lookup token_of token after-ts ≡ in_found (rebound low new) (lookup token_of token ts))
    (long : length after-ts ≡ length ts) (once : Once token_of after-ts)
    (follows : (new ≡ no_name → ⊥) → (t : Token) → t.name ≡ low → Bindable low rs → Bindable new after)
    (others : (n : ℕ) → Bindable n rs → (n ≡ low → ⊥) → Bindable n after)
    (low-some : low ≡ no_name → ⊥) where
  pub sound-tokens-after : SoundTokens after after-ts
  sound-tokens-after =
      record {
        few = rw long s.few;
        once = once;
        some = tokens 0 ∙ ap (in_found (rebound low new)) s.some;
        bound-to = λ token t' e. by_found token t' (lookup token_of token ts) refl (sym (tokens token) ∙ e);
      }
    where
      by_name : (t t' : Token) (token : ℕ) → lookup token_of token ts ≡ found t → rebound low new t ≡ t' → (t'.name ≡ no_name → ⊥) → Bindable t'.name after
      by_name t t' token e i some =
          ⊎_elim
          (λ h. let is : new ≡ t'.name = sym (renamed-own low new t.name h) ∙ ap (λ (x : Token). x.name) i in
          subst (λ n. Bindable n after) is
          (follows (λ u. some (sym is ∙ u)) t h (subst (λ n. Bindable n rs) h (s.bound-to token t e (λ u. low-some (sym h ∙ u))))))
          (λ h. let is : t.name ≡ t'.name = sym (renamed-other low new t.name h) ∙ ap (λ (x : Token). x.name) i in
          subst (λ n. Bindable n after) is (others t.name (s.bound-to token t e (λ u. some (sym is ∙ u))) h))
          (same_or_not t.name low)

      by_found : (token : ℕ) (t' : Token) (f : Found Token) → lookup token_of token ts ≡ f → in_found (rebound low new) f ≡ found t' → (t'.name ≡ no_name → ⊥) → Bindable t'.name after
      by_found token t' none h i = absurd (none-not-found t' i)
      by_found token t' (found t) h i = by_name t t' token h (found-same i)

-- ---- a name destroyed

module _ (rs : List Resource) (once : Once handle_of rs) (some : lookup handle_of 0 rs ≡ none) (s : SoundNames rs) (k : ℕ) (r : Resource) (e : lookup handle_of k rs ≡ found r) where
  abbrev pub left : List Resource
  left = removed (index_of handle_of k rs) rs

  abbrev pub low : ℕ
  low = r.lowest

  abbrev pub new : ℕ
  new = lowest_left low left

-- ---- a name imported

-- a token is bound to a resource by its name
pub bound-is : (token : ℕ) (ts : List Token) (rs : List Resource) (r : Resource) → bound token ts rs ≡ found r
    → (t : Token) × (lookup token_of token ts ≡ found t) × (t.name ≡ no_name → ⊥) × (lookup handle_of t.name rs ≡ found r)
unfolding bound
bound-is token ts rs r = by_found (lookup token_of token ts) refl
  where
    by_test : (t : Token) (b : Bool) → eqb t.name no_name ≡ b → lookup token_of token ts ≡ found t → pick b none (lookup handle_of t.name rs) ≡ found r
        → (t : Token) × (lookup token_of token ts ≡ found t) × (t.name ≡ no_name → ⊥) × (lookup handle_of t.name rs ≡ found r)
    by_test t true h i e = absurd (none-not-found r e)
    by_test t false h i e = (t, i, eqb-false t.name no_name h, e)

    by_found : (f : Found Token) → lookup token_of token ts ≡ f → bound_in f rs ≡ found r
        → (t : Token) × (lookup token_of token ts ≡ found t) × (t.name ≡ no_name → ⊥) × (lookup handle_of t.name rs ≡ found r)
    by_found none i e = absurd (none-not-found r e)
    by_found (found t) i e = by_test t (eqb t.name no_name) refl i e

pub lower-first : (a b : ℕ) → lower a b ≤ a
lower-first a b = by_test (ltb a b) refl
  where
    by_test : (t : Bool) → ltb a b ≡ t → pick t a b ≤ a
    by_test true e = omega arith
    by_test false e = omega (arith, ltb-false a b e)

pub lower-second : (a b : ℕ) → lower a b ≤ b
lower-second a b = by_test (ltb a b) refl
  where
    by_test : (t : Bool) → ltb a b ≡ t → pick t a b ≤ b
    by_test true e = omega (arith, ltb-true a b e)
    by_test false e = omega arith

pub lower-either : (a b : ℕ) → (lower a b ≡ a) ⊎ (lower a b ≡ b)
lower-either a b = by_test (ltb a b)
  where
    by_test : (t : Bool) → (pick t a b ≡ a) ⊎ (pick t a b ≡ b)
    by_test true = inl refl
    by_test false = inr refl
