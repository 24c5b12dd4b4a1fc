-- Those of a rising list that pass a test: they rise, too, and are found by the same keys; with the others they are the whole list.
-- Assumes nothing.
use Rattle.std.specs.Prelude.{◌≡◌, Bool, ℕ, ◌+◌, ◌≤◌, ◌<◌}
use Rattle.std.proofs.Math.Path.{refl, ap}
use Rattle.std.proofs.Common.{sym, subst, ◌∙◌, ⊎_elim}
use Rattle.std.proofs.Math.Bool.{true, false, not}
use mathlib.Core.List.{List, [], ◌∷◌, ◌++◌}
use native.Mathlib.Omega.{arith}
use Rattle.std.proofs.Math.ListN.{length}
use Rattle.machine.specs.Machine.{pick}
use Rattle.rules.specs.Lists.{Found, lookup}
use Rattle.rules.specs.Lists.Found.{none, found}
use Rattle.rules.specs.Saved.{rising, those}
use Rattle.rows.specs.Keys.{same_or_not, lookup-nil, lookup-here, lookup-later}
use Rattle.promises_of_packets.specs.Names.{none-not-found, found-same}
use Rattle.promises_of_packets.specs.Held.{Every, every-none}
use Rattle.promises_of_saving.specs.Rising.{Rises, rises-later, none_below, rising-is-one, rising-rises, found-rising}

-- ---- one list after the other

abbrev pub or_else : {A : Type 0} → Found A → Found A → Found A
or_else none f = f
or_else (found x) f = found x

-- what is found in the first, else what is found in the second
pub found-in-both : {A : Type 0} (key : A → ℕ) (j : ℕ) (xs ys : List A) → lookup key j (xs ++ ys) ≡ or_else (lookup key j xs) (lookup key j ys)
found-in-both key j [] ys = ap (λ f. or_else f (lookup key j ys)) (sym (lookup-nil key j))
found-in-both key j (x ∷ xs) ys =
    ⊎_elim
    (λ h. lookup-here key j x (xs ++ ys) h ∙ ap (λ f. or_else f (lookup key j ys)) (sym (lookup-here key j x xs h)))
    (λ h. lookup-later key j x (xs ++ ys) h ∙ (found-in-both key j xs ys ∙ ap (λ f. or_else f (lookup key j ys)) (sym (lookup-later key j x xs h))))
    (same_or_not (key x) j)

-- ---- those that pass a test

-- what is found, if it passes
abbrev pub if_passed : {A : Type 0} → (A → Bool) → Found A → Found A
if_passed test none = none
if_passed test (found x) = pick (test x) (found x) none

module _ {A : Type 0} (test : A → Bool) where
  pub passed-found : (f : Found A) (x : A) → if_passed test f ≡ found x → (f ≡ found x) × (test x ≡ true)
  passed-found none x e = absurd (none-not-found x e)
  passed-found (found y) x e = by_test (test y) refl e
    where
      by_test : (t : Bool) → test y ≡ t → pick t (found y) none ≡ found x → (found y ≡ found x) × (test x ≡ true)
      by_test true h i = (i, subst (λ z. test z ≡ true) (found-same i) h)
      by_test false h i = absurd (none-not-found x i)

  -- with what does not pass it is what is found
  pub one-part-or-other : (f : Found A) → or_else (if_passed (λ x. not (test x)) f) (if_passed test f) ≡ f
  one-part-or-other none = refl
  one-part-or-other (found x) = by_test (test x)
    where
      by_test : (t : Bool) → or_else (pick (not t) (found x) none) (pick t (found x) none) ≡ found x
      by_test true = refl
      by_test false = refl

  pub every-of-those : (P : A → Type 0) (xs : List A) → Every P xs → Every P (those test xs)
  unfolding those Every
  every-of-those P [] h = every-none P
  every-of-those P (x ∷ xs) h = by_test (test x) (every-of-those P xs h.1)
    where
      by_test : (t : Bool) → Every P (those test xs) → Every P (pick t (x ∷ those test xs) (those test xs))
      by_test true later = (h.0, later)
      by_test false later = later

  -- all of them, where all pass
  pub all_pass : (xs : List A) → Every (λ x. test x ≡ true) xs → those test xs ≡ xs
  unfolding those Every
  all_pass [] h = refl
  all_pass (x ∷ xs) h = rw (h.0, all_pass xs h.1)

  pub none_passes : (xs : List A) → Every (λ x. test x ≡ false) xs → those test xs ≡ []
  unfolding those Every
  none_passes [] h = refl
  none_passes (x ∷ xs) h = rw (h.0, none_passes xs h.1)

  -- with the others they are as many as there are
  pub length-of-parts : (xs : List A) → length (those (λ x. not (test x)) xs) + length (those test xs) ≡ length xs
  unfolding those
  length-of-parts [] = refl
  length-of-parts (x ∷ xs) = by_test (test x) (length-of-parts xs)
    where
      by_test : (t : Bool) → length (those (λ y. not (test y)) xs) + length (those test xs) ≡ length xs
          → length (pick (not t) (x ∷ those (λ y. not (test y)) xs) (those (λ y. not (test y)) xs)) + length (pick t (x ∷ those test xs) (those test xs)) ≡ length (x ∷ xs)
      by_test true h = omega arith
      by_test false h = omega arith

  -- ---- of a rising list

  module _ (key : A → ℕ) where
    rises-from-lower : (j k : ℕ) (xs : List A) → j ≤ k → Rises key k xs → Rises key j xs
    unfolding Rises
    rises-from-lower j k [] l h = omega arith
    rises-from-lower j k (x ∷ xs) l h = (omega (arith, h.0), h.1)

    pub those-rise : (k : ℕ) (xs : List A) → Rises key k xs → Rises key k (those test xs)
    unfolding those Rises
    those-rise k [] h = omega arith
    those-rise k (x ∷ xs) h = by_test (test x) (those-rise (key x) xs h.1)
      where
        by_test : (t : Bool) → Rises key (key x) (those test xs) → Rises key k (pick t (x ∷ those test xs) (those test xs))
        by_test true later = (h.0, later)
        by_test false later = rises-from-lower k (key x) (those test xs) (omega (arith, h.0)) later

    pub found-those : (k : ℕ) (xs : List A) → Rises key k xs → (j : ℕ) → lookup key j (those test xs) ≡ if_passed test (lookup key j xs)
    unfolding those
    found-those k [] h j = lookup-nil key j ∙ ap (if_passed test) (sym (lookup-nil key j))
    found-those k (x ∷ xs) h j = by_test (test x) refl (found-those (key x) xs (rises-later key k x xs h) j)
      where
        stays : test x ≡ true → found x ≡ if_passed test (found x)
        stays e = rw e

        gone : test x ≡ false → key x ≡ j → lookup key j (those test xs) ≡ if_passed test (found x)
        gone e s = none_below key (key x) (those test xs) (those-rise (key x) xs (rises-later key k x xs h)) j (omega arith) ∙ rw e

        by_test : (t : Bool) → test x ≡ t → lookup key j (those test xs) ≡ if_passed test (lookup key j xs)
            → lookup key j (pick t (x ∷ those test xs) (those test xs)) ≡ if_passed test (lookup key j (x ∷ xs))
        by_test true e later =
            ⊎_elim
            (λ s. lookup-here key j x (those test xs) s ∙ (stays e ∙ ap (if_passed test) (sym (lookup-here key j x xs s))))
            (λ s. lookup-later key j x (those test xs) s ∙ (later ∙ ap (if_passed test) (sym (lookup-later key j x xs s))))
            (same_or_not (key x) j)
        by_test false e later =
            ⊎_elim
            (λ s. gone e s ∙ ap (if_passed test) (sym (lookup-here key j x xs s)))
            (λ s. later ∙ ap (if_passed test) (sym (lookup-later key j x xs s)))
            (same_or_not (key x) j)

    -- a rising list of what is found and passes is the list of those
    pub those-are : (xs ys : List A) → Rises key 0 ys → ((j : ℕ) → 0 < j → if_passed test (lookup key j xs) ≡ lookup key j ys) → those test (rising key xs) ≡ ys
    those-are xs ys h same =
        rising-is-one key 0 (those test (rising key xs)) ys (those-rise 0 (rising key xs) (rising-rises key xs)) h
        (λ j l. found-those 0 (rising key xs) (rising-rises key xs) j ∙ (ap (if_passed test) (found-rising key xs j l) ∙ same j l))
