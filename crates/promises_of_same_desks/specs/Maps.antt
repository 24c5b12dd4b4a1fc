-- Lists whose members have a key, each key once, that are the same map: they are as long, and stay the same map whatever the rules do to both. The order in
-- which they stand says nothing. Assumes nothing.
use Rattle.std.specs.Prelude.{◌≡◌, Bool, true, false, List, [], ◌∷◌, ◌⊎◌, ℕ, suc, ◌≤◌, ◌<◌, length, get_or}
use Rattle.std.proofs.Math.Path.{refl}
use Rattle.std.proofs.Common.{sym, ap, ◌∙◌, inl, inr, ⊎_elim, arith}
use Rattle.machine.specs.Machine.{pick}
use Rattle.rules.specs.Lists.{lookup, index_of, pushed, removed}
use Rattle.rules.specs.Lists.Found.{none, found}
use Rattle.rules.specs.Names.{token_of, rename, rebind, lowest_left, is_new, with_token}
use Rattle.rules.specs.Packets.{handle_of}
use Rattle.rules.specs.declared.Resource.{Resource}
use Rattle.rules.specs.declared.Token.{Token}
use Rattle.rows.specs.Keys.{same_or_not, Once, lookup-here, lookup-later, lookup_absent, lookup-once, once-removed, length_removed, lookup-removed-same, lookup-removed-other}
use Rattle.promises_of_packets.specs.Names.{none-not-found, found-place, in_found, moved, rebound, lookup-rename, lookup-rebind, left-least, Left, left_member}
use Rattle.promises_of_saving.specs.Those.{or_else, found-in-both}

module _ {A : Type 0} (key : A → ℕ) where
  -- every key means the same in both, or nothing in either
  abbrev pub SameMap : List A → List A → Type 0
  SameMap xs ys = (k : ℕ) → lookup key k xs ≡ lookup key k ys

  -- ---- they are as long

  pub once-later : (x : A) (xs : List A) → Once key (x ∷ xs) → Once key xs
  once-later x xs o =
      record {
        same = λ d i j p q e. let s : suc i ≡ suc j = o.same d (suc i) (suc j) (omega arith) (omega arith) e in omega arith;
      }

  pub first_alone : (x : A) (xs : List A) → Once key (x ∷ xs) → lookup key (key x) xs ≡ none
  first_alone x xs o =
      lookup_absent key (key x) xs x (λ j h e. let s : suc j ≡ 0 = o.same x (suc j) 0 (omega arith) (omega arith) e in omega arith)

  -- a list whose members are all found in another is no longer than that
  not-longer : (xs ys : List A) → Once key xs → Once key ys → ((k : ℕ) (x : A) → lookup key k xs ≡ found x → lookup key k ys ≡ found x) → length xs ≤ length ys
  not-longer [] ys o p within = omega arith
  not-longer (x ∷ xs) ys o p within =
      let at : ℕ = index_of key (key x) ys in
      let here : at < length ys = found-place key (key x) ys x (within (key x) x (lookup-here key (key x) x xs refl)) in
      let rest : length xs ≤ length (removed at ys) = not-longer xs (removed at ys) (once-later x xs o) (once-removed key at ys p here) (λ k y e. stays here k y e) in
      omega (arith, length_removed at ys here)
    where
      stays : index_of key (key x) ys < length ys → (k : ℕ) (y : A) → lookup key k xs ≡ found y → lookup key k (removed (index_of key (key x) ys) ys) ≡ found y
      stays here k y e =
          let other : k ≡ key x → ⊥ = λ s. none-not-found y (sym (first_alone x xs o) ∙ (ap (λ n. lookup key n xs) (sym s) ∙ e)) in
          lookup-removed-other key (key x) k (index_of key (key x) ys) ys p refl here other
          ∙ within k y (lookup-later key k x xs (λ s. other (sym s)) ∙ e)

  pub same_length : (xs ys : List A) → Once key xs → Once key ys → SameMap xs ys → length xs ≡ length ys
  same_length xs ys o p same =
      let a : length xs ≤ length ys = not-longer xs ys o p (λ k x e. sym (same k) ∙ e) in
      let b : length ys ≤ length xs = not-longer ys xs p o (λ k x e. same k ∙ e) in
      omega arith

  -- ---- one more, one less

  pub same-pushed : (xs ys : List A) (x : A) → SameMap xs ys → SameMap (pushed xs x) (pushed ys x)
  same-pushed xs ys x same k =
      found-in-both key k xs (x ∷ []) ∙ (ap (λ f. or_else f (lookup key k (x ∷ []))) (same k) ∙ sym (found-in-both key k ys (x ∷ [])))

  pub same-removed : (k : ℕ) (xs ys : List A) (x : A) → Once key xs → Once key ys → lookup key k ys ≡ found x → SameMap xs ys
      → SameMap (removed (index_of key k xs) xs) (removed (index_of key k ys) ys)
  same-removed k xs ys x o p e same j =
      let h : index_of key k xs < length xs = found-place key k xs x (same k ∙ e) in
      let i : index_of key k ys < length ys = found-place key k ys x e in
      ⊎_elim
      (λ s. ap (λ n. lookup key n (removed (index_of key k xs) xs)) s
      ∙ (lookup-removed-same key k (index_of key k xs) xs o refl h
      ∙ (sym (lookup-removed-same key k (index_of key k ys) ys p refl i) ∙ ap (λ n. lookup key n (removed (index_of key k ys) ys)) (sym s))))
      (λ n. lookup-removed-other key k j (index_of key k xs) xs o refl h n ∙ (same j ∙ sym (lookup-removed-other key k j (index_of key k ys) ys p refl i n)))
      (same_or_not j k)

-- ---- names

pub same-renamed : (old new : ℕ) (rs qs : List Resource) → SameMap handle_of rs qs → SameMap handle_of (rename old new rs) (rename old new qs)
same-renamed old new rs qs same k =
    lookup-rename old new k rs ∙ (ap (in_found (moved old new)) (same k) ∙ sym (lookup-rename old new k qs))

module _ (low : ℕ) where
  nothing_left : lowest_left low [] ≡ 0
  unfolding lowest_left
  nothing_left = refl

  -- a name that is left in one is left in the other, so the lowest of the other is not above the lowest of the one
  not-above : (rs qs : List Resource) → Once handle_of rs → lookup handle_of 0 qs ≡ none → SameMap handle_of rs qs → (lowest_left low rs ≡ 0 → ⊥)
      → (lowest_left low qs ≡ 0 → ⊥) × (lowest_left low qs ≤ lowest_left low rs)
  not-above [] qs o z same some = absurd (some nothing_left)
  not-above (r ∷ rs) qs o z same some =
      let m : Left low (r ∷ rs) r = left_member low (r ∷ rs) r some in
      left-least low (lowest_left low (r ∷ rs)) (get_or (r ∷ rs) m.place r) m.its qs z
      (sym (same (lowest_left low (r ∷ rs))) ∙ lookup-once handle_of (lowest_left low (r ∷ rs)) (r ∷ rs) o r m.place m.inside m.named)

  pub same-lowest : (rs qs : List Resource) → Once handle_of rs → Once handle_of qs → lookup handle_of 0 rs ≡ none → SameMap handle_of rs qs
      → lowest_left low rs ≡ lowest_left low qs
  same-lowest rs qs o p y same = by_both (same_or_not (lowest_left low rs) 0) (same_or_not (lowest_left low qs) 0)
    where
      z : lookup handle_of 0 qs ≡ none
      z = sym (same 0) ∙ y

      by_both : (lowest_left low rs ≡ 0) ⊎ (lowest_left low rs ≡ 0 → ⊥) → (lowest_left low qs ≡ 0) ⊎ (lowest_left low qs ≡ 0 → ⊥) → lowest_left low rs ≡ lowest_left low qs
      by_both (inl a) (inl b) = a ∙ sym b
      by_both (inl a) (inr b) = absurd ((not-above qs rs p y (λ k. sym (same k)) b).0 a)
      by_both (inr a) (inl b) = absurd ((not-above rs qs o z same a).0 b)
      by_both (inr a) (inr b) = omega (arith, (not-above rs qs o z same a).1, (not-above qs rs p y (λ k. sym (same k)) b).1)

-- ---- tokens

pub same-rebound : (old new : ℕ) (ts us : List Token) → SameMap token_of ts us → SameMap token_of (rebind old new ts) (rebind old new us)
same-rebound old new ts us same k =
    lookup-rebind old new k ts ∙ (ap (in_found (rebound old new)) (same k) ∙ sym (lookup-rebind old new k us))

pub same-with-token : (token low : ℕ) (ts us : List Token) → SameMap token_of ts us → SameMap token_of (with_token token low ts) (with_token token low us)
same-with-token token low ts us same = rw (same token) (by_test (is_new (lookup token_of token us)))
  where
    by_test : (b : Bool) → SameMap token_of (pick b (pushed ts (record { name = low; token = token })) ts) (pick b (pushed us (record { name = low; token = token })) us)
    by_test true = same-pushed token_of ts us (record { name = low; token = token }) same
    by_test false = same
