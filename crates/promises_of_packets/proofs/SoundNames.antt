-- The theorems of specs/SoundNames.antt, and what they rest on. Assumes nothing.
use Rattle.std.specs.Prelude.{◌≡◌, refl, Bool, true, false, ◌&&◌, List, [], ℕ, ◌≤◌, ◌<◌, leb, length, get_or}
use Rattle.std.proofs.Common.{sym, ap, subst, ◌∙◌, ⊎_elim, arith, leb-false, length-append}
use Rattle.machine.specs.Machine.{pick}
use Rattle.rules.specs.Numbers.{most_tokens, no_name}
use Rattle.rules.specs.Lists.{Found, lookup, index_of, pushed}
use Rattle.rules.specs.Lists.Found.{none, found}
use Rattle.rules.specs.Names.{token_of, shareable, with_lowest, under, rename, rebind, lower, names_left, tokens_left, names_with, tokens_with, is_new, with_token, without_token}
use Rattle.rules.specs.Packets.{handle_of, bound}
use Rattle.rules.specs.declared.Resource.{Resource}
use Rattle.rules.specs.declared.Token.{Token}
use Rattle.rows.specs.Keys.{same_or_not, Once, once-pushed, once-removed, lookup-nil, lookup-once, lookup-pushed-other, lookup-pushed-same, lookup-removed-same, lookup-removed-other}
use Rattle.promises_of_packets.specs.Names.{none-not-found, found-same, true-not-false, found-place, found-key, in_found, moved, rebound, lookup-rename, lookup-rebind, length-rebind, once-rebind, renamed-other, moved_other, left-least, Left, left_member}
use Rattle.promises_of_packets.proofs.Names.{lookup-released, lookup-unreleased, length-released, once-released}
use Rattle.promises_of_packets.specs.SoundNames.{Bindable, SoundBut, SoundNames, SoundTokens, bindable-stays, bound-is, by_resource, left, low, lower-either, lower-first, lower-second, new, other_name, own_name, sound-tokens-after}

-- ---- names

pub no_names : SoundNames []
no_names =
    record {
      lowest = λ k r e. absurd (none-not-found r (sym (lookup-nil handle_of k) ∙ e));
      least = λ k r e. absurd (none-not-found r (sym (lookup-nil handle_of k) ∙ e));
      shared = λ k r e. absurd (none-not-found r (sym (lookup-nil handle_of k) ∙ e));
    }

-- ---- names of one resource

module _ (rs : List Resource) (s : SoundNames rs) where
  -- two names that have the same lowest are one resource: the same numbers by either
  pub one-resource : (a b : ℕ) (x y : Resource) → lookup handle_of a rs ≡ found x → lookup handle_of b rs ≡ found y → x.lowest ≡ y.lowest → (n : ℕ) → under n x ≡ under n y
  one-resource a b x y e f same n =
      ap (under n) (found-same (sym (s.lowest a x e) ∙ (ap (λ k. lookup handle_of k rs) same ∙ s.lowest b y f)))

  -- a resource with two names may be shared
  pub two-names-shareable : (a b : ℕ) (x y : Resource) → lookup handle_of a rs ≡ found x → lookup handle_of b rs ≡ found y → x.lowest ≡ y.lowest → (a ≡ b → ⊥)
      → shareable x.kind ≡ true
  two-names-shareable a b x y e f same other =
      ⊎_elim
      (λ h. ap (λ (z : Resource). shareable z.kind) (one-resource a b x y e f same 0) ∙ s.shared b y f (λ u. other (sym h ∙ (same ∙ u))))
      (λ h. s.shared a x e h)
      (same_or_not x.lowest a)

  -- the lowest name of a resource has itself for its lowest, so none but its own
  pub lowest-apart : (k n : ℕ) (r x : Resource) → lookup handle_of k rs ≡ found r → lookup handle_of n rs ≡ found x → (x.lowest ≡ r.lowest → ⊥) → x.lowest ≡ k → ⊥
  lowest-apart k n r x e f other u =
      other (ap (λ (z : Resource). z.lowest) (found-same (sym (s.lowest n x f) ∙ (ap (λ i. lookup handle_of i rs) u ∙ e))))

-- ---- a resource whose lowest name changes

module _ (low new : ℕ) (rs after : List Resource) (names : (k : ℕ) → lookup handle_of k after ≡ in_found (moved low new) (lookup handle_of k rs)) where
  module _ (s : SoundBut low new rs) where
    pub sound-after : SoundNames after
    sound-after =
        record {
          lowest =
              (by_resource low new rs after names s) (λ k r. lookup handle_of r.lowest after ≡ found (under r.lowest r))
              (λ k r e h. (own_name low new rs after names) new (with_lowest low (under new r)) (s.its-lowest k r e h) refl)
              (λ k r e h. (other_name low new rs after names) r.lowest (under r.lowest r) (s.lowest k r e h) h);
          least = (by_resource low new rs after names s) (λ k r. r.lowest ≤ k) (λ k r e h. s.its-least k r e h) (λ k r e h. s.least k r e h);
          shared =
              (by_resource low new rs after names s) (λ k r. (r.lowest ≡ k → ⊥) → shareable r.kind ≡ true) (λ k r e h n. s.its-shared k r e h n) (λ k r e h n. s.shared k r e h n);
        }

-- ---- a new resource, which has one name

module _ (rs : List Resource) (s : SoundNames rs) (r : Resource) (unused : lookup handle_of r.handle rs ≡ none) where
  -- every live name means what it meant
  pub old-name : (k : ℕ) (x : Resource) → lookup handle_of k rs ≡ found x → lookup handle_of k (pushed rs r) ≡ found x
  old-name k x e = lookup-pushed-other handle_of k rs r (λ u. none-not-found x (sym unused ∙ (ap (λ i. lookup handle_of i rs) u ∙ e))) ∙ e

  pub new-name : lookup handle_of r.handle (pushed rs r) ≡ found r
  new-name = lookup-pushed-same handle_of r.handle rs r unused refl

  -- and there is no other but the new one
  pub new-or-old : (P : ℕ → Resource → Type 0) → P r.handle r → ((k : ℕ) (x : Resource) → lookup handle_of k rs ≡ found x → P k x)
      → (k : ℕ) (x : Resource) → lookup handle_of k (pushed rs r) ≡ found x → P k x
  new-or-old P here others k x e =
      ⊎_elim
      (λ h. subst (λ i. P i x) h (subst (P r.handle) (found-same (sym new-name ∙ (ap (λ i. lookup handle_of i (pushed rs r)) h ∙ e))) here))
      (λ h. others k x (sym (lookup-pushed-other handle_of k rs r h) ∙ e))
      (same_or_not r.handle k)

  pub names-stored : r.lowest ≡ r.handle → SoundNames (pushed rs r)
  names-stored own =
      record {
        lowest =
            new-or-old (λ k x. lookup handle_of x.lowest (pushed rs r) ≡ found (under x.lowest x))
            (ap (λ i. lookup handle_of i (pushed rs r)) own ∙ (new-name ∙ ap (λ n. found (under n r)) (sym own)))
            (λ k x e. old-name x.lowest (under x.lowest x) (s.lowest k x e));
        least = new-or-old (λ k x. x.lowest ≤ k) (omega arith) s.least;
        shared = new-or-old (λ k x. (x.lowest ≡ k → ⊥) → shareable x.kind ≡ true) (λ n. absurd (n own)) s.shared;
      }

  pub tokens-stored : (ts : List Token) → SoundTokens rs ts → SoundTokens (pushed rs r) ts
  tokens-stored ts k =
      record {
        few = k.few;
        once = k.once;
        some = k.some;
        bound-to = λ token t e n.
            let b : Bindable t.name rs = k.bound-to token t e n in
            record { what = b.what; here = old-name t.name b.what b.here; lowest = b.lowest; shape = b.shape };
      }

-- ---- a name destroyed

module _ (rs : List Resource) (once : Once handle_of rs) (some : lookup handle_of 0 rs ≡ none) (s : SoundNames rs) (k : ℕ) (r : Resource) (e : lookup handle_of k rs ≡ found r) where
  here : index_of handle_of k rs < length rs
  here = found-place handle_of k rs r e

  left-once : Once handle_of (left rs once some s k r e)
  left-once = once-removed handle_of (index_of handle_of k rs) rs once here

  pub gone : lookup handle_of k (left rs once some s k r e) ≡ none
  gone = lookup-removed-same handle_of k (index_of handle_of k rs) rs once refl here

  pub others-left : (n : ℕ) → (n ≡ k → ⊥) → lookup handle_of n (left rs once some s k r e) ≡ lookup handle_of n rs
  others-left n other = lookup-removed-other handle_of k n (index_of handle_of k rs) rs once refl here other

  was-there : (n : ℕ) (x : Resource) → lookup handle_of n (left rs once some s k r e) ≡ found x → (n ≡ k → ⊥) × (lookup handle_of n rs ≡ found x)
  was-there n x f =
      let other : n ≡ k → ⊥ = λ u. none-not-found x (sym gone ∙ (ap (λ i. lookup handle_of i (left rs once some s k r e)) (sym u) ∙ f)) in
      (other, sym (others-left n other) ∙ f)

  zero_left : lookup handle_of 0 (left rs once some s k r e) ≡ none
  zero_left = others-left 0 (λ u. none-not-found r (sym some ∙ (ap (λ i. lookup handle_of i rs) u ∙ e))) ∙ some

  -- while a name of the resource is left, the lowest of them is one
  lowest-of-left : (n : ℕ) (x : Resource) → lookup handle_of n (left rs once some s k r e) ≡ found x → x.lowest ≡ (low rs once some s k r e) → ((new rs once some s k r e) ≡ 0 → ⊥) × ((new rs once some s k r e) ≤ n)
  lowest-of-left n x f h = left-least (low rs once some s k r e) n x h (left rs once some s k r e) zero_left f

  pub new-found : ((new rs once some s k r e) ≡ 0 → ⊥) → (x : Resource) × (lookup handle_of (new rs once some s k r e) (left rs once some s k r e) ≡ found x) × (x.lowest ≡ (low rs once some s k r e))
  new-found n =
      let m : Left (low rs once some s k r e) (left rs once some s k r e) r = left_member (low rs once some s k r e) (left rs once some s k r e) r n in
      (get_or (left rs once some s k r e) m.place r, lookup-once handle_of (new rs once some s k r e) (left rs once some s k r e) left-once r m.place m.inside m.named, m.its)

  pub left-sound : SoundBut (low rs once some s k r e) (new rs once some s k r e) (left rs once some s k r e)
  left-sound =
      record {
        lowest = λ n x f other.
            let b : (n ≡ k → ⊥) × (lookup handle_of n rs ≡ found x) = was-there n x f in
            others-left x.lowest (lowest-apart rs s k n r x e b.1 other) ∙ s.lowest n x b.1;
        least = λ n x f other. s.least n x (was-there n x f).1;
        shared = λ n x f other. s.shared n x (was-there n x f).1;
        its-lowest = λ n x f h.
            let y : (y : Resource) × (lookup handle_of (new rs once some s k r e) (left rs once some s k r e) ≡ found y) × (y.lowest ≡ (low rs once some s k r e)) = new-found (lowest-of-left n x f h).0 in
            let alike : under (new rs once some s k r e) y.0 ≡ under (new rs once some s k r e) x =
            one-resource rs s (new rs once some s k r e) n y.0 x (was-there (new rs once some s k r e) y.0 y.1).1 (was-there n x f).1 (y.2 ∙ sym h) (new rs once some s k r e) in
            let its : y.0.handle ≡ (new rs once some s k r e) = found-key handle_of (new rs once some s k r e) (left rs once some s k r e) y.0 y.1 in
            let is : y.0 ≡ with_lowest (low rs once some s k r e) (under (new rs once some s k r e) y.0) = ap (λ i. with_lowest y.0.lowest (under i y.0)) its ∙ ap (λ i. with_lowest i (under (new rs once some s k r e) y.0)) y.2 in
            y.1 ∙ ap found (is ∙ ap (with_lowest (low rs once some s k r e)) alike);
        its-least = λ n x f h. (lowest-of-left n x f h).1;
        its-shared = λ n x f h other.
            let b : (n ≡ k → ⊥) × (lookup handle_of n rs ≡ found x) = was-there n x f in
            two-names-shareable rs s n k x r b.1 e h b.0;
      }

  -- what each name means after it
  pub name-after-destroy : (n : ℕ) → lookup handle_of n (names_left r (left rs once some s k r e)) ≡ in_found (moved (low rs once some s k r e) (new rs once some s k r e)) (lookup handle_of n (left rs once some s k r e))
  name-after-destroy n = by_test (shareable r.kind) refl
    where
      by_found : (f : Found Resource) → shareable r.kind ≡ false → lookup handle_of n (left rs once some s k r e) ≡ f → f ≡ in_found (moved (low rs once some s k r e) (new rs once some s k r e)) f
      by_found none t i = refl
      by_found (found x) t i =
          let b : (n ≡ k → ⊥) × (lookup handle_of n rs ≡ found x) = was-there n x i in
          ap found (sym (moved_other (low rs once some s k r e) (new rs once some s k r e) x (λ h. true-not-false (sym (two-names-shareable rs s k n r x e b.1 (sym h) (λ u. b.0 (sym u))) ∙ t))))

      by_test : (b : Bool) → shareable r.kind ≡ b → lookup handle_of n (pick b (rename (low rs once some s k r e) (new rs once some s k r e) (left rs once some s k r e)) (left rs once some s k r e)) ≡ in_found (moved (low rs once some s k r e) (new rs once some s k r e)) (lookup handle_of n (left rs once some s k r e))
      by_test true t = lookup-rename (low rs once some s k r e) (new rs once some s k r e) n (left rs once some s k r e)
      by_test false t = by_found (lookup handle_of n (left rs once some s k r e)) t refl

  -- it is none any more, and every other one means what it meant
  pub name-destroyed : lookup handle_of k (names_left r (left rs once some s k r e)) ≡ none
  name-destroyed = name-after-destroy k ∙ ap (in_found (moved (low rs once some s k r e) (new rs once some s k r e))) gone

  pub other-name-after-destroy : (n : ℕ) → (n ≡ k → ⊥) → lookup handle_of n (names_left r (left rs once some s k r e)) ≡ in_found (moved (low rs once some s k r e) (new rs once some s k r e)) (lookup handle_of n rs)
  other-name-after-destroy n other = name-after-destroy n ∙ ap (in_found (moved (low rs once some s k r e) (new rs once some s k r e))) (others-left n other)

  pub names-destroyed : SoundNames (names_left r (left rs once some s k r e))
  names-destroyed = sound-after (low rs once some s k r e) (new rs once some s k r e) (left rs once some s k r e) (names_left r (left rs once some s k r e)) name-after-destroy left-sound

  pub low-some : (low rs once some s k r e) ≡ 0 → ⊥
  low-some u = none-not-found (under (low rs once some s k r e) r) (sym some ∙ (ap (λ i. lookup handle_of i rs) (sym u) ∙ s.lowest k r e))

  module _ (ts : List Token) (t : SoundTokens rs ts) where
    -- what is not shared has no token
    not-bound : shareable r.kind ≡ false → (token : ℕ) (x : Token) → lookup token_of token ts ≡ found x → x.name ≡ (low rs once some s k r e) → ⊥
    not-bound h token x f u =
        let b : Bindable x.name rs = t.bound-to token x f (λ z. low-some (sym u ∙ z)) in
        let alike : under 0 b.what ≡ under 0 r = one-resource rs s x.name k b.what r b.here e (b.lowest ∙ u) 0 in
        true-not-false (sym b.shape ∙ (ap (λ (z : Resource). shareable z.kind) alike ∙ h))

    -- what each token is after it
    pub token-after-destroy : (token : ℕ) → lookup token_of token (tokens_left r (left rs once some s k r e) ts) ≡ in_found (rebound (low rs once some s k r e) (new rs once some s k r e)) (lookup token_of token ts)
    token-after-destroy token = by_test (shareable r.kind) refl
      where
        by_found : (f : Found Token) → shareable r.kind ≡ false → lookup token_of token ts ≡ f → f ≡ in_found (rebound (low rs once some s k r e) (new rs once some s k r e)) f
        by_found none h i = refl
        by_found (found x) h i = ap (λ n. found (record { name = n; token = x.token })) (sym (renamed-other (low rs once some s k r e) (new rs once some s k r e) x.name (not-bound h token x i)))

        by_test : (b : Bool) → shareable r.kind ≡ b → lookup token_of token (pick b (rebind (low rs once some s k r e) (new rs once some s k r e) ts) ts) ≡ in_found (rebound (low rs once some s k r e) (new rs once some s k r e)) (lookup token_of token ts)
        by_test true h = lookup-rebind (low rs once some s k r e) (new rs once some s k r e) token ts
        by_test false h = by_found (lookup token_of token ts) h refl

    length-left : length (tokens_left r (left rs once some s k r e) ts) ≡ length ts
    length-left = by_test (shareable r.kind)
      where
        by_test : (b : Bool) → length (pick b (rebind (low rs once some s k r e) (new rs once some s k r e) ts) ts) ≡ length ts
        by_test true = length-rebind (low rs once some s k r e) (new rs once some s k r e) ts
        by_test false = refl

    once-left : Once token_of (tokens_left r (left rs once some s k r e) ts)
    once-left = by_test (shareable r.kind)
      where
        by_test : (b : Bool) → Once token_of (pick b (rebind (low rs once some s k r e) (new rs once some s k r e) ts) ts)
        by_test true = once-rebind (low rs once some s k r e) (new rs once some s k r e) ts t.once
        by_test false = t.once

    follows : ((new rs once some s k r e) ≡ no_name → ⊥) → Bindable (low rs once some s k r e) rs → Bindable (new rs once some s k r e) (names_left r (left rs once some s k r e))
    follows n b =
        let y : (y : Resource) × (lookup handle_of (new rs once some s k r e) (left rs once some s k r e) ≡ found y) × (y.lowest ≡ (low rs once some s k r e)) = new-found n in
        let alike : under 0 y.0 ≡ under 0 b.what = one-resource rs s (new rs once some s k r e) (low rs once some s k r e) y.0 b.what (was-there (new rs once some s k r e) y.0 y.1).1 b.here (y.2 ∙ sym b.lowest) 0 in
        record {
          what = with_lowest (new rs once some s k r e) y.0;
          here = own_name (low rs once some s k r e) (new rs once some s k r e) (left rs once some s k r e) (names_left r (left rs once some s k r e)) name-after-destroy (new rs once some s k r e) y.0 y.1 y.2;
          lowest = refl;
          shape = ap (λ (z : Resource). shareable z.kind) alike ∙ b.shape;
        }

    others-stay : (n : ℕ) → Bindable n rs → (n ≡ (low rs once some s k r e) → ⊥) → Bindable n (names_left r (left rs once some s k r e))
    others-stay n b other =
        let apart : n ≡ k → ⊥ = λ u. lowest-apart rs s k n r b.what e b.here (λ v. other (sym b.lowest ∙ v)) (b.lowest ∙ u) in
        bindable-stays (low rs once some s k r e) (new rs once some s k r e) (left rs once some s k r e) (names_left r (left rs once some s k r e)) name-after-destroy n b.what (others-left n apart ∙ b.here) b.lowest b.shape other

    pub tokens-destroyed-sound : SoundTokens (names_left r (left rs once some s k r e)) (tokens_left r (left rs once some s k r e) ts)
    tokens-destroyed-sound =
        sound-tokens-after (low rs once some s k r e) (new rs once some s k r e) rs (names_left r (left rs once some s k r e)) ts (tokens_left r (left rs once some s k r e) ts) t token-after-destroy length-left once-left
        (λ n _ _ b. follows n b) others-stay low-some

-- ---- a name imported

-- where tokens are sound, that is its lowest name, and it may be shared
pub record BoundTo (token : ℕ) (ts : List Token) (rs : List Resource) (r : Resource) : Type 0 where
  pub what : Token
  pub here : lookup token_of token ts ≡ found what
  pub its : what.name ≡ r.lowest
  pub lowest : lookup handle_of r.lowest rs ≡ found r
  pub shape : shareable r.kind ≡ true

pub sound-bound : (token : ℕ) (ts : List Token) (rs : List Resource) (r : Resource) → SoundTokens rs ts → bound token ts rs ≡ found r → BoundTo token ts rs r
sound-bound token ts rs r s e =
    let b = bound-is token ts rs r e in
    let n : Bindable b.0.name rs = s.bound-to token b.0 b.1 b.2 in
    let is : n.what ≡ r = found-same (sym n.here ∙ b.3) in
    let its : b.0.name ≡ r.lowest = sym n.lowest ∙ ap (λ (z : Resource). z.lowest) is in
    record {
      what = b.0;
      here = b.1;
      its = its;
      lowest = ap (λ k. lookup handle_of k rs) (sym its) ∙ b.3;
      shape = ap (λ (z : Resource). shareable z.kind) (sym is) ∙ n.shape;
    }

module _ (rs : List Resource) (s : SoundNames rs) (k : ℕ) (unused : lookup handle_of k rs ≡ none) (r : Resource) (here : lookup handle_of r.lowest rs ≡ found r) (shape : shareable r.kind ≡ true) where
  abbrev mid : List Resource
  mid = pushed rs (under k r)

  abbrev first : ℕ
  first = r.lowest

  abbrev then : ℕ
  then = lower k r.lowest

  -- by the lower of the two names it is the same resource
  pub then-here : lookup handle_of then mid ≡ found (under then r)
  then-here =
      ⊎_elim
      (λ q. subst (λ n. lookup handle_of n mid ≡ found (under n r)) (sym q) (new-name rs s (under k r) unused))
      (λ q. subst (λ n. lookup handle_of n mid ≡ found (under n r)) (sym q) (old-name rs s (under k r) unused first (under first r) (s.lowest first r here)))
      (lower-either k first)

  by_name : (P : ℕ → Resource → Type 0) → P k (under k r) → ((n : ℕ) (x : Resource) → lookup handle_of n rs ≡ found x → P n x)
      → (n : ℕ) (x : Resource) → lookup handle_of n mid ≡ found x → P n x
  by_name = new-or-old rs s (under k r) unused

  pub with-name-sound : SoundBut first then mid
  with-name-sound =
      record {
        lowest =
            by_name (λ n x. (x.lowest ≡ first → ⊥) → lookup handle_of x.lowest mid ≡ found (under x.lowest x))
            (λ other. absurd (other refl))
            (λ n x f other. old-name rs s (under k r) unused x.lowest (under x.lowest x) (s.lowest n x f));
        least = by_name (λ n x. (x.lowest ≡ first → ⊥) → x.lowest ≤ n) (λ other. absurd (other refl)) (λ n x f other. s.least n x f);
        shared =
            by_name (λ n x. (x.lowest ≡ first → ⊥) → (x.lowest ≡ n → ⊥) → shareable x.kind ≡ true) (λ other. absurd (other refl))
            (λ n x f other. s.shared n x f);
        its-lowest =
            by_name (λ n x. x.lowest ≡ first → lookup handle_of then mid ≡ found (with_lowest first (under then x)))
            (λ h. then-here)
            (λ n x f h. then-here ∙ ap (λ z. found (with_lowest first z)) (one-resource rs s first n r x here f (sym h) then));
        its-least =
            by_name (λ n x. x.lowest ≡ first → then ≤ n) (λ h. lower-first k first)
            (λ n x f h. omega (arith, lower-second k first, s.least n x f, h));
        its-shared =
            by_name (λ n x. x.lowest ≡ first → (then ≡ n → ⊥) → shareable x.kind ≡ true) (λ h other. shape)
            (λ n x f h other. ap (λ (z : Resource). shareable z.kind) (one-resource rs s n first x r f here h 0) ∙ shape);
      }

  -- what each name means after it
  pub name-after-import : (n : ℕ) → lookup handle_of n (names_with k r rs) ≡ in_found (moved first then) (lookup handle_of n mid)
  name-after-import n = lookup-rename first then n mid

  pub other-name-after-import : (n : ℕ) → (n ≡ k → ⊥) → lookup handle_of n (names_with k r rs) ≡ in_found (moved first then) (lookup handle_of n rs)
  other-name-after-import n other =
      name-after-import n ∙ ap (in_found (moved first then)) (lookup-pushed-other handle_of n rs (under k r) (λ u. other (sym u)))

  -- and what the new one means
  pub name-imported : lookup handle_of k (names_with k r rs) ≡ found (with_lowest then (under k r))
  name-imported = own_name first then mid (names_with k r rs) name-after-import k (under k r) (new-name rs s (under k r) unused) refl

  pub names-imported : SoundNames (names_with k r rs)
  names-imported = sound-after first then mid (names_with k r rs) name-after-import with-name-sound

  module _ (some : lookup handle_of 0 rs ≡ none) (ts : List Token) (t : SoundTokens rs ts) where
    pub token-after-import : (token : ℕ) → lookup token_of token (tokens_with k r ts) ≡ in_found (rebound first then) (lookup token_of token ts)
    token-after-import token = lookup-rebind first then token ts

    pub tokens-imported-sound : SoundTokens (names_with k r rs) (tokens_with k r ts)
    tokens-imported-sound =
        sound-tokens-after first then rs (names_with k r rs) ts (tokens_with k r ts) t token-after-import (length-rebind first then ts) (once-rebind first then ts t.once)
        (λ n x h b. record {
          what = with_lowest then (under then r);
          here = own_name first then mid (names_with k r rs) name-after-import then (under then r) then-here refl;
          lowest = refl;
          shape = shape;
        })
        (λ n b other. bindable-stays first then mid (names_with k r rs) name-after-import n b.what
        (old-name rs s (under k r) unused n b.what b.here) b.lowest b.shape other)
        (λ u. none-not-found r (sym some ∙ (ap (λ i. lookup handle_of i rs) (sym u) ∙ here)))

-- ---- a token exported

module _ (rs : List Resource) (s : SoundNames rs) (ts : List Token) (t : SoundTokens rs ts) (k : ℕ) (r : Resource) (e : lookup handle_of k rs ≡ found r) (shape : shareable r.kind ≡ true)
    (token : ℕ) (some : token ≡ 0 → ⊥) where
  pub tokens-exported-sound : is_new (lookup token_of token ts) && leb most_tokens (length ts) ≡ false → SoundTokens rs (with_token token r.lowest ts)
  tokens-exported-sound = by_found (lookup token_of token ts) refl
    where
      by_token : lookup token_of token ts ≡ none → (j : ℕ) (x : Token) → lookup token_of j (pushed ts (record { name = r.lowest; token = token })) ≡ found x
          → (x.name ≡ no_name → ⊥) → Bindable x.name rs
      by_token unused j x f n =
          ⊎_elim
          (λ h. let is : record { name = r.lowest; token = token } ≡ x =
          found-same (sym (lookup-pushed-same token_of j ts (record { name = r.lowest; token = token }) (ap (λ i. lookup token_of i ts) (sym h) ∙ unused) h) ∙ f) in
          subst (λ (z : Token). Bindable z.name rs) is (record { what = under r.lowest r; here = s.lowest k r e; lowest = refl; shape = shape }))
          (λ h. t.bound-to j x (sym (lookup-pushed-other token_of j ts (record { name = r.lowest; token = token }) h) ∙ f) n)
          (same_or_not token j)

      by_found : (f : Found Token) → lookup token_of token ts ≡ f → is_new f && leb most_tokens (length ts) ≡ false
          → SoundTokens rs (pick (is_new f) (pushed ts (record { name = r.lowest; token = token })) ts)
      by_found none u room =
          let l : length ts < most_tokens = leb-false most_tokens (length ts) room in
          record {
            few = simp length-append (omega arith);
            once = once-pushed token_of ts (record { name = r.lowest; token = token }) t.once u;
            some = lookup-pushed-other token_of 0 ts (record { name = r.lowest; token = token }) some ∙ t.some;
            bound-to = by_token u;
          }
      by_found (found x) u room = t

-- ---- a token released

pub tokens-released-sound : (rs : List Resource) (ts : List Token) → SoundTokens rs ts → (token : ℕ) (x : Token) → lookup token_of token ts ≡ found x → SoundTokens rs (without_token token ts)
tokens-released-sound rs ts s token x e =
    record {
      few = rw (length-released token ts x e) s.few;
      once = once-released token ts x e s.once;
      some = lookup-unreleased token ts x e 0 (λ u. none-not-found x (sym s.some ∙ (ap (λ i. lookup token_of i ts) u ∙ e))) ∙ s.some;
      bound-to = λ j t f n.
          ⊎_elim
          (λ h. absurd (n (sym (ap (λ (z : Token). z.name) (found-same (sym (lookup-released token ts x e) ∙ (ap (λ i. lookup token_of i (without_token token ts)) (sym h) ∙ f)))))))
          (λ h. s.bound-to j t (sym (lookup-unreleased token ts x e j h) ∙ f) n)
          (same_or_not j token);
    }
