-- Names of resources and tokens (02, wish 5): what is found by a name once a resource's lowest name has changed, which is the lowest of the names
-- that are left, and that every packet keeps names and tokens sound. Assumes nothing.
use Rattle.std.specs.Prelude.{◌≡◌, Bool, ◌⊎◌, ltb, get_or}
use Rattle.std.proofs.Math.Path.{refl, sym, ap}
use Rattle.std.proofs.Common.{◌∙◌, inl, inr, ⊎_elim, eq-eqb, ne_eqb, ltb-true, ltb-false}
use Rattle.std.proofs.Math.Bool.{true, false}
use mathlib.Core.List.{List, [], ◌∷◌}
use Prim.Native.Nat.{ℕ, zero, suc, ◌≤◌, ◌<◌}
use native.Mathlib.Omega.{arith}
use Rattle.std.proofs.Math.Dec.{eqb}
use Rattle.std.proofs.Math.ListN.{length}
use Rattle.machine.specs.Machine.{pick}
use Rattle.rules.specs.Numbers.{no_name}
use Rattle.rules.specs.Lists.{Found, lookup, index_of}
use Rattle.rules.specs.Lists.Found.{none, found}
use Rattle.rules.specs.Names.{token_of, renamed, with_lowest, rename, rebind, lower_of, lowest_left}
use Rattle.rules.specs.Packets.{handle_of}
use Rattle.rules.specs.declared.Resource.{Resource}
use Rattle.rules.specs.declared.Token.{Token}
use Rattle.rows.specs.Keys.{same_or_not, Once, lookup-nil, lookup-here, lookup-later, lookup-none, index-bound}
use Rattle.words.specs.Over.{below_or_not}

-- ---- what is found

pub none-not-found : {A : Type 0} (x : A) → none ≡ found x → ⊥
none-not-found x e = let z : ◌≡◌ {A = ℕ} 0 1 = cc in omega arith

abbrev found-or : {A : Type 0} → A → Found A → A
found-or d none = d
found-or d (found x) = x

pub found-same : {A : Type 0} {x y : A} → found x ≡ found y → x ≡ y
found-same {x = x} e = ap (found-or x) e

pub true-not-false : true ≡ false → ⊥
true-not-false e = let z : ◌≡◌ {A = ℕ} 0 1 = cc in omega arith

module _ {A : Type 0} (key : A → ℕ) (k : ℕ) where
  -- it has a place
  pub found-place : (xs : List A) (x : A) → lookup key k xs ≡ found x → index_of key k xs < length xs
  found-place xs x e =
      ⊎_elim (λ h. h) (λ h. absurd (none-not-found x (sym (lookup-none key k xs (omega (arith, index-bound key k xs))) ∙ e)))
      (below_or_not (index_of key k xs) (length xs))

  -- and the key by which it is found
  pub found-key : (xs : List A) (x : A) → lookup key k xs ≡ found x → key x ≡ k
  found-key [] x e = absurd (none-not-found x (sym (lookup-nil key k) ∙ e))
  found-key (y ∷ ys) x e =
      ⊎_elim
      (λ h. ap key (sym (found-same (sym (lookup-here key k y ys h) ∙ e))) ∙ h)
      (λ h. found-key ys x (sym (lookup-later key k y ys h) ∙ e))
      (same_or_not (key y) k)

-- ---- each member changed, but not its key

module _ {A : Type 0} (f : A → A) where
  unfoldable each : List A → List A
  each [] = []
  each (x ∷ xs) = f x ∷ each xs

  abbrev pub in_found : Found A → Found A
  in_found none = none
  in_found (found x) = found (f x)

  length-each : (xs : List A) → length (each xs) ≡ length xs
  unfolding each
  length-each [] = refl
  length-each (x ∷ xs) = rw (length-each xs)

  each_at : (xs : List A) (d : A) (i : ℕ) → i < length xs → get_or (each xs) i d ≡ f (get_or xs i d)
  unfolding each
  each_at [] d i h = absurd (omega arith)
  each_at (x ∷ xs) d zero h = refl
  each_at (x ∷ xs) d (suc i) h = each_at xs d i (omega arith)

  module _ (key : A → ℕ) (same : (x : A) → key (f x) ≡ key x) where
    lookup-each : (k : ℕ) (xs : List A) → lookup key k (each xs) ≡ in_found (lookup key k xs)
    unfolding each lookup
    lookup-each k [] = refl
    lookup-each k (x ∷ xs) = rw (same x) (by_test (eqb (key x) k) (lookup-each k xs))
      where
        by_test : (b : Bool) → lookup key k (each xs) ≡ in_found (lookup key k xs) → pick b (found (f x)) (lookup key k (each xs)) ≡ in_found (pick b (found x) (lookup key k xs))
        by_test true later = refl
        by_test false later = later

    once-each : (xs : List A) → Once key xs → Once key (each xs)
    once-each xs o =
        record {
          same = λ d i j p q e.
              let a : i < length xs = rw (length-each xs) at p in
              let b : j < length xs = rw (length-each xs) at q in
              let u : key (get_or (each xs) i d) ≡ key (get_or xs i d) = ap key (each_at xs d i a) ∙ same (get_or xs i d) in
              let v : key (get_or (each xs) j d) ≡ key (get_or xs j d) = ap key (each_at xs d j b) ∙ same (get_or xs j d) in
              o.same d i j a b (sym u ∙ (e ∙ v));
        }

-- ---- a resource whose lowest name changes: the same resource by each name, and the tokens follow

module _ (old new : ℕ) where
  abbrev pub moved : Resource → Resource
  moved r = with_lowest (renamed old new r.lowest) r

  abbrev pub rebound : Token → Token
  rebound t = record { name = renamed old new t.name; token = t.token }

  rename-each : (rs : List Resource) → rename old new rs ≡ each moved rs
  unfolding rename each
  rename-each [] = refl
  rename-each (r ∷ rs) = rw (rename-each rs)

  rebind-each : (ts : List Token) → rebind old new ts ≡ each rebound ts
  unfolding rebind each
  rebind-each [] = refl
  rebind-each (t ∷ ts) = rw (rebind-each ts)

  -- what a name means after it, and a token
  pub lookup-rename : (k : ℕ) (rs : List Resource) → lookup handle_of k (rename old new rs) ≡ in_found moved (lookup handle_of k rs)
  lookup-rename k rs = rw (rename-each rs) (lookup-each moved handle_of (λ r. refl) k rs)

  pub lookup-rebind : (token : ℕ) (ts : List Token) → lookup token_of token (rebind old new ts) ≡ in_found rebound (lookup token_of token ts)
  lookup-rebind token ts = rw (rebind-each ts) (lookup-each rebound token_of (λ t. refl) token ts)

  pub length-rename : (rs : List Resource) → length (rename old new rs) ≡ length rs
  length-rename rs = rw (rename-each rs) (length-each moved rs)

  pub length-rebind : (ts : List Token) → length (rebind old new ts) ≡ length ts
  length-rebind ts = rw (rebind-each ts) (length-each rebound ts)

  pub once-rename : (rs : List Resource) → Once handle_of rs → Once handle_of (rename old new rs)
  once-rename rs o = rw (rename-each rs) (once-each moved handle_of (λ r. refl) rs o)

  pub once-rebind : (ts : List Token) → Once token_of ts → Once token_of (rebind old new ts)
  once-rebind ts o = rw (rebind-each ts) (once-each rebound token_of (λ t. refl) ts o)

  -- that resource is called by its new name, and any other as it was
  pub renamed-own : (n : ℕ) → n ≡ old → renamed old new n ≡ new
  renamed-own n e = rw (eq-eqb n old e)

  pub renamed-other : (n : ℕ) → (n ≡ old → ⊥) → renamed old new n ≡ n
  renamed-other n other = rw (ne_eqb n old other)

  pub moved-own : (r : Resource) → r.lowest ≡ old → moved r ≡ with_lowest new r
  moved-own r e = rw (eq-eqb r.lowest old e)

  pub moved_other : (r : Resource) → (r.lowest ≡ old → ⊥) → moved r ≡ r
  moved_other r n = rw (ne_eqb r.lowest old n)

-- ---- the lowest name of those that are left

lower-of-first : (a b : ℕ) → lower_of a b ≤ a
lower-of-first a b = by_test (eqb b no_name) (ltb a b) refl
  where
    by_test : (s t : Bool) → ltb a b ≡ t → pick s a (pick t a b) ≤ a
    by_test true t e = omega arith
    by_test false true e = omega arith
    by_test false false e = omega (arith, ltb-false a b e)

lower-of-second : (a b : ℕ) → (b ≡ 0 → ⊥) → lower_of a b ≤ b
lower-of-second a b n = rw (ne_eqb b 0 n) (by_test (ltb a b) refl)
  where
    by_test : (t : Bool) → ltb a b ≡ t → pick t a b ≤ b
    by_test true e = omega (arith, ltb-true a b e)
    by_test false e = omega arith

lower-of-either : (a b : ℕ) → (lower_of a b ≡ a) ⊎ (lower_of a b ≡ b)
lower-of-either a b = by_test (eqb b no_name) (ltb a b)
  where
    by_test : (s t : Bool) → (pick s a (pick t a b) ≡ a) ⊎ (pick s a (pick t a b) ≡ b)
    by_test true t = inl refl
    by_test false true = inl refl
    by_test false false = inr refl

module _ (low : ℕ) where
  nothing_left : lowest_left low [] ≡ 0
  unfolding lowest_left
  nothing_left = refl

  left_here : (r : Resource) (rs : List Resource) → r.lowest ≡ low → lowest_left low (r ∷ rs) ≡ lower_of r.handle (lowest_left low rs)
  unfolding lowest_left
  left_here r rs e = rw (eq-eqb r.lowest low e)

  left-later : (r : Resource) (rs : List Resource) → (r.lowest ≡ low → ⊥) → lowest_left low (r ∷ rs) ≡ lowest_left low rs
  unfolding lowest_left
  left-later r rs n = rw (ne_eqb r.lowest low n)

  -- names are not 0
  abbrev Nonzero : List Resource → Type 0
  Nonzero rs = lookup handle_of 0 rs ≡ none

  first-nonzero : (r : Resource) (rs : List Resource) → Nonzero (r ∷ rs) → r.handle ≡ 0 → ⊥
  first-nonzero r rs z e = none-not-found r (sym z ∙ lookup-here handle_of 0 r rs e)

  rest-nonzero : (r : Resource) (rs : List Resource) → Nonzero (r ∷ rs) → Nonzero rs
  rest-nonzero r rs z = sym (lookup-later handle_of 0 r rs (first-nonzero r rs z)) ∙ z

  module _ (k : ℕ) (r : Resource) (e : r.lowest ≡ low) where
    -- there is one where a name is left, and it is not above that name
    pub left-least : (rs : List Resource) → lookup handle_of 0 rs ≡ none → lookup handle_of k rs ≡ found r → (lowest_left low rs ≡ 0 → ⊥) × (lowest_left low rs ≤ k)
    left-least [] z f = absurd (none-not-found r (sym (lookup-nil handle_of k) ∙ f))
    left-least (x ∷ rs) z f = ⊎_elim here (λ n. later n (left-least rs (rest-nonzero x rs z) (sym (lookup-later handle_of k x rs n) ∙ f))) (same_or_not x.handle k)
      where
        here : x.handle ≡ k → (lowest_left low (x ∷ rs) ≡ 0 → ⊥) × (lowest_left low (x ∷ rs) ≤ k)
        here h =
            let is : x.lowest ≡ low = ap (λ (y : Resource). y.lowest) (found-same (sym (lookup-here handle_of k x rs h) ∙ f)) ∙ e in
            rw (left_here x rs is)
            (⊎_elim
            (λ q. let nz : x.handle ≡ 0 → ⊥ = first-nonzero x rs z in (λ u. nz (sym q ∙ u), omega (arith, lower-of-first x.handle (lowest_left low rs))))
            (λ q. (by-rest q, omega (arith, lower-of-first x.handle (lowest_left low rs))))
            (lower-of-either x.handle (lowest_left low rs)))
          where
            by-rest : lower_of x.handle (lowest_left low rs) ≡ (lowest_left low rs) → lower_of x.handle (lowest_left low rs) ≡ 0 → ⊥
            by-rest q u =
                let rest-is : lowest_left low rs ≡ 0 = sym q ∙ u in
                let is : lower_of x.handle (lowest_left low rs) ≡ x.handle = rw (eq-eqb (lowest_left low rs) 0 rest-is) in
                first-nonzero x rs z (sym is ∙ u)

        later : (x.handle ≡ k → ⊥) → ((lowest_left low rs ≡ 0 → ⊥) × (lowest_left low rs ≤ k)) → (lowest_left low (x ∷ rs) ≡ 0 → ⊥) × (lowest_left low (x ∷ rs) ≤ k)
        later n its =
            ⊎_elim
            (λ h. rw (left_here x rs h) (
              ⊎_elim (λ q. λ u. first-nonzero x rs z (sym q ∙ u)) (λ q. λ u. its.0 (sym q ∙ u)) (lower-of-either x.handle (lowest_left low rs)),
              omega (arith, lower-of-second x.handle (lowest_left low rs) its.0, its.1),
            ))
            (λ h. rw (left-later x rs h) its)
            (same_or_not x.lowest low)

  -- it is one of those names
  pub record Left (rs : List Resource) (d : Resource) : Type 0 where
    pub place : ℕ
    pub inside : place < length rs
    pub named : (get_or rs place d).handle ≡ lowest_left low rs
    pub its : (get_or rs place d).lowest ≡ low

  pub left_member : (rs : List Resource) (d : Resource) → (lowest_left low rs ≡ 0 → ⊥) → Left rs d
  left_member [] d n = absurd (n nothing_left)
  left_member (x ∷ rs) d n = ⊎_elim (here (left_member rs d)) (later (left_member rs d)) (same_or_not x.lowest low)
    where
      after : ((lowest_left low rs ≡ 0 → ⊥) → Left rs d) → lowest_left low rs ≡ lowest_left low (x ∷ rs) → Left (x ∷ rs) d
      after of-rest e =
          let m : Left rs d = of-rest (λ u. n (sym e ∙ u)) in
          record { place = suc m.place; inside = omega (arith, m.inside); named = m.named ∙ e; its = m.its }

      here : ((lowest_left low rs ≡ 0 → ⊥) → Left rs d) → x.lowest ≡ low → Left (x ∷ rs) d
      here of-rest h =
          ⊎_elim
          (λ q. record { place = 0; inside = omega arith; named = sym (left_here x rs h ∙ q); its = h })
          (λ q. after of-rest (sym (left_here x rs h ∙ q)))
          (lower-of-either x.handle (lowest_left low rs))

      later : ((lowest_left low rs ≡ 0 → ⊥) → Left rs d) → (x.lowest ≡ low → ⊥) → Left (x ∷ rs) d
      later of-rest h = after of-rest (sym (left-later x rs h))

-- ---- a token released: the first that has the number, spent

module _ (token : ℕ) where
  abbrev pub spent : Token
  spent = record { name = no_name; token = token }

  unfoldable pub spend : List Token → List Token
  spend [] = []
  spend (t ∷ ts) = pick (eqb t.token token) (spent ∷ ts) (t ∷ spend ts)
