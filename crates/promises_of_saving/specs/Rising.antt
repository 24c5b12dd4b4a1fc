-- "live resources by rising handle", and names and tokens in "rising order": the list of them is the same map of keys, whatever order they were
-- kept in, and there is one such list for a map. Assumes nothing.
use Rattle.std.specs.Prelude.{◌≡◌, Bool, get_or}
use Rattle.std.proofs.Math.Path.{refl, sym, ap}
use Rattle.std.proofs.Common.{subst, ◌∙◌}
use Rattle.std.proofs.Math.Bool.{true, false}
use mathlib.Core.List.{List, [], ◌∷◌}
use Rattle.std.proofs.Math.Logic.{⊎_elim}
use Prim.Native.Nat.{ℕ, zero, suc, ◌≤◌, ◌<◌}
use native.Mathlib.Omega.{arith}
use borrow.Author.Tests.{ltb-true, ltb-false, lt-ltb, le-ltb}
use Rattle.std.proofs.Math.Dec.{ltb}
use Rattle.std.proofs.Math.ListN.{length}
use Rattle.machine.specs.Machine.{pick}
use Rattle.rules.specs.Lists.{Found, lookup}
use Rattle.rules.specs.Lists.Found.{none, found}
use Rattle.rules.specs.Saved.{lower_keyed, next_above, key_of, onto, rising_above, rising}
use Rattle.words.specs.Over.{below_or_not}
use Rattle.rows.specs.Keys.{same_or_not, Once, lookup-nil, lookup-here, lookup-later}
use Rattle.promises_of_packets.specs.Names.{none-not-found, found-same}
use Rattle.promises_of_packets.specs.Held.{Every, every-none, every-found}

module _ {A : Type 0} (key : A → ℕ) where
  -- keys rise, from above k on
  unfoldable pub Rises : ℕ → List A → Type 0
  Rises k [] = 0 ≤ 0
  Rises k (r ∷ rs) = (k < key r) × Rises (key r) rs

  pub none-rise : (k : ℕ) → Rises k []
  unfolding Rises
  none-rise k = omega arith

  pub rises-first : (k : ℕ) (r : A) (rs : List A) → Rises k (r ∷ rs) → k < key r
  unfolding Rises
  rises-first k r rs h = h.0

  pub rises-later : (k : ℕ) (r : A) (rs : List A) → Rises k (r ∷ rs) → Rises (key r) rs
  unfolding Rises
  rises-later k r rs h = h.1

  -- so none at or below k is there
  pub none_below : (k : ℕ) (rs : List A) → Rises k rs → (j : ℕ) → j ≤ k → lookup key j rs ≡ none
  none_below k [] h j l = lookup-nil key j
  none_below k (r ∷ rs) h j l =
      let a : k < key r = rises-first k r rs h in
      lookup-later key j r rs (λ e. omega arith) ∙ none_below (key r) rs (rises-later k r rs h) j (omega arith)

  -- ---- a map of keys has one rising list

  pub rising-is-one : (k : ℕ) (xs ys : List A) → Rises k xs → Rises k ys → ((j : ℕ) → k < j → lookup key j xs ≡ lookup key j ys) → xs ≡ ys
  rising-is-one k [] [] h i same = refl
  rising-is-one k [] (y ∷ ys) h i same =
      absurd (none-not-found y (sym (lookup-nil key (key y)) ∙ (same (key y) (rises-first k y ys i) ∙ lookup-here key (key y) y ys refl)))
  rising-is-one k (x ∷ xs) [] h i same =
      absurd (none-not-found x (sym (lookup-nil key (key x)) ∙ (sym (same (key x) (rises-first k x xs h)) ∙ lookup-here key (key x) x xs refl)))
  rising-is-one k (x ∷ xs) (y ∷ ys) h i same = by_first (rising-is-one (key x) xs ys (rises-later k x xs h))
    where
      here-x : lookup key (key x) (y ∷ ys) ≡ found x
      here-x = sym (same (key x) (rises-first k x xs h)) ∙ lookup-here key (key x) x xs refl

      here-y : lookup key (key y) (x ∷ xs) ≡ found y
      here-y = same (key y) (rises-first k y ys i) ∙ lookup-here key (key y) y ys refl

      not-below : key x < key y → ⊥
      not-below l =
          none-not-found x
          (sym (lookup-later key (key x) y ys (λ e. omega arith) ∙ none_below (key y) ys (rises-later k y ys i) (key x) (omega arith)) ∙ here-x)

      not-above : key y < key x → ⊥
      not-above l =
          none-not-found y
          (sym (lookup-later key (key y) x xs (λ e. omega arith) ∙ none_below (key x) xs (rises-later k x xs h) (key y) (omega arith)) ∙ here-y)

      level : key x ≡ key y
      level = ⊎_elim (λ l. absurd (not-below l)) (λ l. ⊎_elim (λ g. absurd (not-above g)) (λ g. omega arith) (below_or_not (key y) (key x))) (below_or_not (key x) (key y))

      first : y ≡ x
      first = found-same (sym (lookup-here key (key x) y ys (sym level)) ∙ here-x)

      rest : (j : ℕ) → key x < j → lookup key j xs ≡ lookup key j ys
      rest j l =
          sym (lookup-later key j x xs (λ e. omega arith))
          ∙ (same j (omega (arith, rises-first k x xs h)) ∙ lookup-later key j y ys (λ e. omega (arith, level)))

      by_first : (Rises (key x) ys → ((j : ℕ) → key x < j → lookup key j xs ≡ lookup key j ys) → xs ≡ ys) → x ∷ xs ≡ y ∷ ys
      by_first later =
          let t : xs ≡ ys = later (subst (λ n. Rises n ys) (sym level) (rises-later k y ys i)) rest in
          rw (first, t)

  -- ---- the next above a key

  abbrev NextAbove : ℕ → List A → Found A → Type 0
  NextAbove k rs none = (j : ℕ) → k < j → lookup key j rs ≡ none
  NextAbove k rs (found q) = (k < key q) × (lookup key (key q) rs ≡ found q) × ((j : ℕ) → k < j → j < key q → lookup key j rs ≡ none)

  next-is : (k : ℕ) (rs : List A) → NextAbove k rs (next_above key k rs)
  unfolding next_above
  next-is k [] = λ j l. lookup-nil key j
  next-is k (r ∷ rs) = by_test (ltb k (key r)) refl (next_above key k rs) (next-is k rs)
    where
      lower : (q : A) (t : Bool) → ltb (key q) (key r) ≡ t → k < key r → NextAbove k rs (found q) → NextAbove k (r ∷ rs) (found (pick t q r))
      lower q true e l n =
          let u : key q < key r = ltb-true (key q) (key r) e in (
            n.0,
            lookup-later key (key q) r rs (λ v. omega arith) ∙ n.1,
            λ j a b. lookup-later key j r rs (λ v. omega arith) ∙ n.2 j a b,
          )
      lower q false e l n =
          let u : key r ≤ key q = ltb-false (key q) (key r) e in (
            l,
            lookup-here key (key r) r rs refl,
            λ j a b. lookup-later key j r rs (λ v. omega arith) ∙ n.2 j a (omega arith),
          )

      above : k < key r → (f : Found A) → NextAbove k rs f → NextAbove k (r ∷ rs) (lower_keyed key r f)
      above l none n = (l, lookup-here key (key r) r rs refl, λ j a b. lookup-later key j r rs (λ v. omega arith) ∙ n j a)
      above l (found q) n = lower q (ltb (key q) (key r)) refl l n

      same : key r ≤ k → (f : Found A) → NextAbove k rs f → NextAbove k (r ∷ rs) f
      same l none n = λ j a. lookup-later key j r rs (λ v. omega arith) ∙ n j a
      same l (found q) n = (
        n.0,
        lookup-later key (key q) r rs (λ v. omega (arith, n.0)) ∙ n.1,
        λ j a b. lookup-later key j r rs (λ v. omega arith) ∙ n.2 j a b,
      )

      by_test : (t : Bool) → ltb k (key r) ≡ t → (f : Found A) → NextAbove k rs f → NextAbove k (r ∷ rs) (pick t (lower_keyed key r f) f)
      by_test true e f n = above (ltb-true k (key r) e) f n
      by_test false e f n = same (ltb-false k (key r) e) f n

  -- ---- how many are above a key: each next one leaves fewer

  unfoldable above : ℕ → List A → ℕ
  above k [] = 0
  above k (r ∷ rs) = pick (ltb k (key r)) (suc (above k rs)) (above k rs)

  one-above : (k : ℕ) (r : A) (rs : List A) → k < key r → above k (r ∷ rs) ≡ suc (above k rs)
  unfolding above
  one-above k r rs l = rw (lt-ltb k (key r) l)

  not-above : (k : ℕ) (r : A) (rs : List A) → key r ≤ k → above k (r ∷ rs) ≡ above k rs
  unfolding above
  not-above k r rs l = rw (le-ltb k (key r) l)

  above-few : (k : ℕ) (rs : List A) → above k rs ≤ length rs
  unfolding above
  above-few k [] = omega arith
  above-few k (r ∷ rs) = by_test (ltb k (key r)) (above-few k rs)
    where
      by_test : (t : Bool) → above k rs ≤ length rs → pick t (suc (above k rs)) (above k rs) ≤ suc (length rs)
      by_test true h = omega arith
      by_test false h = omega arith

  fewer-above : (k j : ℕ) (rs : List A) → k ≤ j → above j rs ≤ above k rs
  unfolding above
  fewer-above k j [] l = omega arith
  fewer-above k j (r ∷ rs) l =
      let ih : above j rs ≤ above k rs = fewer-above k j rs l in
      ⊎_elim
      (λ u. omega (arith, one-above j r rs u, one-above k r rs (omega arith)))
      (λ u. ⊎_elim (λ v. omega (arith, not-above j r rs u, one-above k r rs v)) (λ v. omega (arith, not-above j r rs u, not-above k r rs v)) (below_or_not k (key r)))
      (below_or_not j (key r))

  -- one of them is not above itself
  one_fewer : (k h : ℕ) (rs : List A) (q : A) → k < h → lookup key h rs ≡ found q → above h rs < above k rs
  one_fewer k h [] q l e = absurd (none-not-found q (sym (lookup-nil key h) ∙ e))
  one_fewer k h (r ∷ rs) q l e =
      ⊎_elim
      (λ s. omega (arith, not-above h r rs (omega arith), one-above k r rs (omega arith), fewer-above k h rs (omega arith)))
      (λ s. let ih : above h rs < above k rs = one_fewer k h rs q l (sym (lookup-later key h r rs s) ∙ e) in
      ⊎_elim
      (λ u. omega (arith, one-above h r rs u, one-above k r rs (omega arith)))
      (λ u. ⊎_elim (λ v. omega (arith, not-above h r rs u, one-above k r rs v)) (λ v. omega (arith, not-above h r rs u, not-above k r rs v)) (below_or_not k (key r)))
      (below_or_not h (key r)))
      (same_or_not (key r) h)

  -- ---- the rising list of any list

  -- it rises
  pub rising-above-rises : (n k : ℕ) (rs : List A) → Rises k (rising_above key n k rs)
  unfolding rising_above Rises
  rising-above-rises zero k rs = omega arith
  rising-above-rises (suc n) k rs = by_next (next_above key k rs) (next-is k rs) (λ j. rising-above-rises n j rs)
    where
      by_next : (f : Found A) → NextAbove k rs f → ((j : ℕ) → Rises j (rising_above key n j rs)) → Rises k (onto key f (rising_above key n (key_of key f) rs))
      by_next none e later = omega arith
      by_next (found q) e later = (e.0, later (key q))

  -- what is found in it is what is found in the list
  found-rising-above : (n k : ℕ) (rs : List A) → above k rs ≤ n → (j : ℕ) → k < j → lookup key j (rising_above key n k rs) ≡ lookup key j rs
  unfolding rising_above
  found-rising-above zero k rs few j l = lookup-nil key j ∙ sym (by_found (lookup key j rs) refl)
    where
      by_found : (f : Found A) → lookup key j rs ≡ f → lookup key j rs ≡ none
      by_found none e = e
      by_found (found q) e = absurd (omega (arith, one_fewer k j rs q l e))
  found-rising-above (suc n) k rs few j l = by_next (next_above key k rs) (next-is k rs) (λ i a b. found-rising-above n i rs a j b)
    where
      by_next : (f : Found A) → NextAbove k rs f → ((i : ℕ) → above i rs ≤ n → i < j → lookup key j (rising_above key n i rs) ≡ lookup key j rs)
          → lookup key j (onto key f (rising_above key n (key_of key f) rs)) ≡ lookup key j rs
      by_next none e later = lookup-nil key j ∙ sym (e j l)
      by_next (found q) e later =
          let d : above (key q) rs < above k rs = one_fewer k (key q) rs q e.0 e.1 in
          ⊎_elim
          (λ s. lookup-here key j q (rising_above key n (key q) rs) s ∙ (sym e.1 ∙ ap (λ i. lookup key i rs) s))
          (λ s. lookup-later key j q (rising_above key n (key q) rs) s
          ∙ ⊎_elim
          (λ u. later (key q) (omega arith) u)
          (λ u. none_below (key q) (rising_above key n (key q) rs) (rising-above-rises n (key q) rs) j u
          ∙ sym (e.2 j l (⊎_elim (λ v. v) (λ v. absurd (s (omega arith))) (below_or_not j (key q)))))
          (below_or_not (key q) j))
          (same_or_not (key q) j)

  rising-above-few : (n k : ℕ) (rs : List A) → length (rising_above key n k rs) ≤ n
  unfolding rising_above
  rising-above-few zero k rs = omega arith
  rising-above-few (suc n) k rs = by_next (next_above key k rs) (rising-above-few n (key_of key (next_above key k rs)) rs)
    where
      by_next : (f : Found A) → length (rising_above key n (key_of key f) rs) ≤ n → length (onto key f (rising_above key n (key_of key f) rs)) ≤ suc n
      by_next none h = omega arith
      by_next (found q) h = omega arith

  rising-above-every : (P : A → Type 0) (n k : ℕ) (rs : List A) → Every P rs → Every P (rising_above key n k rs)
  unfolding rising_above Every
  rising-above-every P zero k rs h = every-none P
  rising-above-every P (suc n) k rs h = by_next (next_above key k rs) (next-is k rs) (λ j. rising-above-every P n j rs h)
    where
      by_next : (f : Found A) → NextAbove k rs f → ((j : ℕ) → Every P (rising_above key n j rs)) → Every P (onto key f (rising_above key n (key_of key f) rs))
      by_next none e later = every-none P
      by_next (found q) e later = (every-found P key (key q) rs q e.1 h, later (key q))

  module _ (rs : List A) where
    pub rising-rises : Rises 0 (rising key rs)
    unfolding rising
    rising-rises = rising-above-rises (length rs) 0 rs

    -- "live resources by rising handle" are those that are live, and so are tokens
    pub found-rising : (j : ℕ) → 0 < j → lookup key j (rising key rs) ≡ lookup key j rs
    unfolding rising
    found-rising j l = found-rising-above (length rs) 0 rs (above-few 0 rs) j l

    -- with no key 0 by every key
    pub found-rising-any : lookup key 0 rs ≡ none → (j : ℕ) → lookup key j (rising key rs) ≡ lookup key j rs
    found-rising-any some zero = none_below 0 (rising key rs) rising-rises 0 (omega arith) ∙ sym some
    found-rising-any some (suc j) = found-rising (suc j) (omega arith)

    pub rising-few : length (rising key rs) ≤ length rs
    unfolding rising
    rising-few = rising-above-few (length rs) 0 rs

    pub rising-every : (P : A → Type 0) → Every P rs → Every P (rising key rs)
    unfolding rising
    rising-every P h = rising-above-every P (length rs) 0 rs h

    -- a list whose keys rise is its own rising list
    pub rising-of-rising : Rises 0 rs → rising key rs ≡ rs
    rising-of-rising h = rising-is-one 0 (rising key rs) rs rising-rises h found-rising

  -- ---- each key once, and none is 0

  above-all : (k : ℕ) (rs : List A) → Rises k rs → (d : A) (i : ℕ) → i < length rs → k < key (get_or rs i d)
  above-all k [] h d i l = absurd (omega arith)
  above-all k (r ∷ rs) h d zero l = rises-first k r rs h
  above-all k (r ∷ rs) h d (suc i) l = omega (arith, rises-first k r rs h, above-all (key r) rs (rises-later k r rs h) d i (omega arith))

  same_place : (k : ℕ) (rs : List A) → Rises k rs → (d : A) (i j : ℕ) → i < length rs → j < length rs → key (get_or rs i d) ≡ key (get_or rs j d) → i ≡ j
  same_place k [] h d i j p q e = absurd (omega arith)
  same_place k (r ∷ rs) h d zero zero p q e = refl
  same_place k (r ∷ rs) h d zero (suc j) p q e = absurd (omega (arith, above-all (key r) rs (rises-later k r rs h) d j (omega arith)))
  same_place k (r ∷ rs) h d (suc i) zero p q e = absurd (omega (arith, above-all (key r) rs (rises-later k r rs h) d i (omega arith)))
  same_place k (r ∷ rs) h d (suc i) (suc j) p q e = ap suc (same_place (key r) rs (rises-later k r rs h) d i j (omega arith) (omega arith) e)

  pub rises-once : (k : ℕ) (rs : List A) → Rises k rs → Once key rs
  rises-once k rs h = record { same = λ d i j p q e. same_place k rs h d i j p q e }

  -- what is true of each one that is found is true of all
  pub every-of-found : (P : A → Type 0) (k : ℕ) (rs : List A) → Rises k rs → ((r : A) → lookup key (key r) rs ≡ found r → P r) → Every P rs
  unfolding Every
  every-of-found P k [] h f = every-none P
  every-of-found P k (r ∷ rs) h f = (
    f r (lookup-here key (key r) r rs refl),
    every-of-found P (key r) rs (rises-later k r rs h)
        (λ q e. f q (lookup-later key (key q) r rs (λ s. none-not-found q (sym (none_below (key r) rs (rises-later k r rs h) (key q) (omega arith)) ∙ e)) ∙ e)),
  )
