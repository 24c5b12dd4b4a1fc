-- "No difference is left out and none is reported of equal bytes." The list of differing offsets has exactly the offsets past the shorter packet's end
-- and those where the bytes differ; it rises; and asking for the next offset again and again gives all of it. Assumes nothing.
use Rattle.std.specs.Prelude.{◌≡◌, Bool, not, ◌||◌, ◌&&◌, ltb, eqb, length, None, Option, Some}
use Rattle.std.proofs.Math.Path.{refl, ap}
use Rattle.std.proofs.Common.{sym, ◌∙◌, ⊎_elim, arith, le-ltb, eq-eqb, ne_eqb, eqb-true}
use Rattle.std.proofs.Math.Bool.{true, false}
use mathlib.Core.List.{List, [], ◌∷◌}
use Prim.Native.Nat.{ℕ, zero, suc, ◌+◌, ◌-◌, ◌≤◌, ◌<◌, max}
use Rattle.machine.specs.Machine.{pick}
use Rattle.words.specs.Over.{below_or_not}
use Rattle.rules.specs.Difference.{differing_from, differing, next_from}
use Rattle.diff_bytes.specs.Differing.{differs_at, differs-second, from_offset, none-there, there-or-not}

-- ---- the list has exactly the differing offsets

-- whether a number is in a list
unfoldable pub among : ℕ → List ℕ → Bool
among i [] = false
among i (j ∷ js) = eqb i j || among i js

-- no offset is below the one where the bytes begin
below_none : (i j : ℕ) (x y : List ℕ) → i < j → among i (differing_from j x y) ≡ false
unfolding among differing_from
below_none i j [] [] h = refl
below_none i j [] (n ∷ y) h = rw (ne_eqb i j (λ e. omega arith)) (below_none i (j + 1) [] y (omega arith))
below_none i j (m ∷ x) [] h = rw (ne_eqb i j (λ e. omega arith)) (below_none i (j + 1) x [] (omega arith))
below_none i j (m ∷ x) (n ∷ y) h = by_test (eqb m n) (below_none i (j + 1) x y (omega arith))
  where
    by_test : (t : Bool) → among i (differing_from (j + 1) x y) ≡ false → among i (pick t (differing_from (j + 1) x y) (j ∷ differing_from (j + 1) x y)) ≡ false
    by_test true e = e
    by_test false e = rw (ne_eqb i j (λ e. omega arith)) e

module _ (x y : List ℕ) where
  past : (i : ℕ) → max (length x) (length y) ≤ i → differs_at x y i ≡ false
  past i h = sym (differs-second x y i (omega arith)) ∙ le-ltb i (length y) (omega arith)

  here : (i : ℕ) (t : Bool) → among i (pick t (i ∷ from_offset x y (i + 1)) (from_offset x y (i + 1))) ≡ t
  unfolding among
  here i true = rw (eq-eqb i i refl)
  here i false = below_none i (i + 1) _ _ (omega arith)

  later : (i j : ℕ) (t : Bool) → j < i → among i (pick t (j ∷ from_offset x y (j + 1)) (from_offset x y (j + 1))) ≡ among i (from_offset x y (j + 1))
  unfolding among
  later i j true h = rw (ne_eqb i j (λ e. omega arith))
  later i j false h = refl

  none-among : (i : ℕ) → among i [] ≡ false
  unfolding among
  none-among i = refl

  at_end : (i j : ℕ) → j ≤ i → max (length x) (length y) ≤ j → among i (from_offset x y j) ≡ differs_at x y i
  at_end i j l h = ap (among i) (none-there x y j h) ∙ (none-among i ∙ sym (past i (omega arith)))

  -- k offsets before the one that is asked about
  among-from : (k i j : ℕ) → i ≡ j + k → among i (from_offset x y j) ≡ differs_at x y i
  among-from zero i j e =
      let s : j ≡ i = omega arith in
      ap (λ n. among i (from_offset x y n)) s
      ∙ ⊎_elim (λ h. ap (among i) (there-or-not x y i h) ∙ here i (differs_at x y i)) (λ h. at_end i i (omega arith) h) (below_or_not i (max (length x) (length y)))
  among-from (suc k) i j e =
      ⊎_elim
      (λ h. ap (among i) (there-or-not x y j h) ∙ (later i j (differs_at x y j) (omega arith) ∙ among-from k i (j + 1) (omega arith)))
      (λ h. at_end i j (omega arith) h)
      (below_or_not j (max (length x) (length y)))

  -- an offset is in the list exactly if it is past the shorter packet's end or the bytes differ there
  pub listed-exactly : (i : ℕ) → among i (differing x y) ≡ differs_at x y i
  listed-exactly i = among-from i i 0 (omega arith)

-- ---- the list rises

-- each is above the one before, and none is below the first number
unfoldable pub rises_from : ℕ → List ℕ → Bool
rises_from from [] = true
rises_from from (i ∷ offsets) = not (ltb i from) && rises_from (i + 1) offsets

rising : (from i : ℕ) (x y : List ℕ) → from ≤ i → rises_from from (differing_from i x y) ≡ true
unfolding rises_from differing_from
rising from i [] [] h = refl
rising from i [] (n ∷ y) h = rw (le-ltb i from h) (rising (i + 1) (i + 1) [] y (omega arith))
rising from i (m ∷ x) [] h = rw (le-ltb i from h) (rising (i + 1) (i + 1) x [] (omega arith))
rising from i (m ∷ x) (n ∷ y) h = by_test (eqb m n) (rising from (i + 1) x y (omega arith)) (rising (i + 1) (i + 1) x y (omega arith))
  where
    by_test : (t : Bool) → rises_from from (differing_from (i + 1) x y) ≡ true → rises_from (i + 1) (differing_from (i + 1) x y) ≡ true
        → rises_from from (pick t (differing_from (i + 1) x y) (i ∷ differing_from (i + 1) x y)) ≡ true
    by_test true e f = e
    by_test false e f = rw (le-ltb i from h) f

pub offsets-rise : (x y : List ℕ) → rises_from 0 (differing x y) ≡ true
offsets-rise x y = rising 0 0 x y (omega arith)

-- ---- the next offset, asked again and again

-- what a question gives from an offset on, each time asked from the offset after the one that was found; at most k times
abbrev pub then_on : Option ℕ → (ℕ → List ℕ) → List ℕ
then_on None ask-on = []
then_on (Some i) ask-on = i ∷ ask-on (i + 1)

unfoldable pub asked_on : (ℕ → Option ℕ) → ℕ → ℕ → List ℕ
asked_on ask zero from = []
asked_on ask (suc k) from = then_on (ask from) (asked_on ask k)

module _ (x y : List ℕ) where
  abbrev pub ask : ℕ → Option ℕ
  ask from = next_from from (differing x y)

  split-here : (from i : ℕ) (rest : List ℕ) (t : Bool) → (from_offset x y (from + 1) ≡ i ∷ rest → rest ≡ from_offset x y (i + 1))
      → pick t (from ∷ from_offset x y (from + 1)) (from_offset x y (from + 1)) ≡ i ∷ rest → rest ≡ from_offset x y (i + 1)
  split-here from i rest true f e =
      let a : from ≡ i = cc in
      let b : from_offset x y (from + 1) ≡ rest = cc in
      sym b ∙ ap (λ n. from_offset x y (n + 1)) a
  split-here from i rest false f e = f e

  -- behind the first of the list is the list from the offset after it
  pub split_off : (n from i : ℕ) (rest : List ℕ) → max (length x) (length y) - from ≤ n → from_offset x y from ≡ i ∷ rest → rest ≡ from_offset x y (i + 1)
  split_off zero from i rest h e = absurd (let f : ◌≡◌ {A = List ℕ} [] (i ∷ rest) = sym (none-there x y from (omega arith)) ∙ e in let z : ◌≡◌ {A = ℕ} 0 1 = cc in omega arith)
  split_off (suc n) from i rest h e =
      ⊎_elim
      (λ l. split-here from i rest (differs_at x y from) (split_off n (from + 1) i rest (omega arith)) (sym (there-or-not x y from l) ∙ e))
      (λ l. absurd (let f : ◌≡◌ {A = List ℕ} [] (i ∷ rest) = sym (none-there x y from l) ∙ e in let z : ◌≡◌ {A = ℕ} 0 1 = cc in omega arith))
      (below_or_not from (max (length x) (length y)))

-- ---- the list is empty exactly for equal bytes

none_differ : (i : ℕ) (x y : List ℕ) → differing_from i x y ≡ [] → x ≡ y
unfolding differing_from
none_differ i [] [] e = refl
none_differ i [] (n ∷ y) e = absurd (let z : ◌≡◌ {A = ℕ} 0 1 = cc in omega arith)
none_differ i (m ∷ x) [] e = absurd (let z : ◌≡◌ {A = ℕ} 0 1 = cc in omega arith)
none_differ i (m ∷ x) (n ∷ y) e =
    let p = by_test (eqb m n) e in
    let a : m ≡ n = eqb-true m n p.0 in
    rw (a, none_differ (i + 1) x y p.1)
  where
    by_test : (t : Bool) → pick t (differing_from (i + 1) x y) (i ∷ differing_from (i + 1) x y) ≡ [] → (t ≡ true) × (differing_from (i + 1) x y ≡ [])
    by_test true e = (refl, e)
    by_test false e = absurd (let z : ◌≡◌ {A = ℕ} 0 1 = cc in omega arith)

same_none : (i : ℕ) (x : List ℕ) → differing_from i x x ≡ []
unfolding differing_from
same_none i [] = refl
same_none i (m ∷ x) = rw (eq-eqb m m refl) (same_none (i + 1) x)

pub none-differ-equal : (x y : List ℕ) → differing x y ≡ [] → x ≡ y
none-differ-equal x y e = none_differ 0 x y e

pub equal-none-differ : (x : List ℕ) → differing x x ≡ []
equal-none-differ x = same_none 0 x
