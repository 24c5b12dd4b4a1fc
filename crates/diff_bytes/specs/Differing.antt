-- Where two packets differ, offset by offset. Assumes nothing.
use Rattle.std.specs.Prelude.{◌≡◌, refl, Bool, true, false, not, List, [], ◌∷◌, ◌++◌, ◌⊎◌, ℕ, zero, suc, ◌+◌, ◌-◌, ◌≤◌, ◌<◌, min, max, ltb, eqb, get_or, take, drop, None, Option, Some}
use Rattle.std.proofs.Common.{sym, ap, ◌∙◌, ⊎_elim, zero-add, add-zero, rules, Fits, length-take, length-drop, take-append-drop, drop-cons, drop-drop, get_or-take, get_or-drop, length-take-le}
use native.Mathlib.Omega.{arith}
use borrow.Author.Tests.{lt-ltb, le-ltb, eq-eqb, eqb-true, not-false}
use Rattle.std.specs.Int.{w8}
use Rattle.std.proofs.Math.ListN.{length, drop_of_length-le, get_or-eq_default}
use Rattle.std.proofs.Math.Seq.{drop-nil}
use Rattle.machine.specs.Machine.{pick}
use Rattle.words.specs.Fields.{bytes_of-le}
use Rattle.words.specs.Over.{below_or_not}
use Rattle.rules.specs.Bytes.{bytes_of, field}
use Rattle.rules.specs.Difference.{differing_from, differing, next_from}

-- "bytes past the shorter of two count as differing": whether two packets differ at an offset
unfoldable pub differs_at : List ℕ → List ℕ → ℕ → Bool
differs_at x y i =
    pick (ltb i (length x)) (pick (ltb i (length y)) (not (eqb (get_or x i 0) (get_or y i 0))) true) (ltb i (length y))

-- ---- differs

module _ (x y : List ℕ) (i : ℕ) where
  pub differs-both : i < length x → i < length y → not (eqb (get_or x i 0) (get_or y i 0)) ≡ differs_at x y i
  unfolding differs_at
  differs-both h k = rw (lt-ltb i (length x) h, lt-ltb i (length y) k)

  pub differs-first : i < length x → length y ≤ i → true ≡ differs_at x y i
  unfolding differs_at
  differs-first h k = rw (lt-ltb i (length x) h, le-ltb i (length y) k)

  pub differs-second : length x ≤ i → ltb i (length y) ≡ differs_at x y i
  unfolding differs_at
  differs-second h = rw (le-ltb i (length x) h)

pub ruleset differing_there = (differs-both, differs-first, differs-second, rules)

-- ---- the list from an offset on

-- the first of a list
abbrev pub first_of : List ℕ → Option ℕ
first_of [] = None
first_of (i ∷ offsets) = Some i

-- the bytes from an offset on
abbrev pub from_offset : List ℕ → List ℕ → ℕ → List ℕ
from_offset x y i = differing_from i (drop i x) (drop i y)

none_below : (from i : ℕ) (x y : List ℕ) → from ≤ i → next_from from (differing_from i x y) ≡ first_of (differing_from i x y)
unfolding differing_from next_from
none_below from i [] [] h = refl
none_below from i [] (n ∷ y) h = rw (le-ltb i from h)
none_below from i (m ∷ x) [] h = rw (le-ltb i from h)
none_below from i (m ∷ x) (n ∷ y) h = by_test (eqb m n) (none_below from (i + 1) x y (omega arith))
  where
    by_test : (t : Bool) → next_from from (differing_from (i + 1) x y) ≡ first_of (differing_from (i + 1) x y)
        → next_from from (pick t (differing_from (i + 1) x y) (i ∷ differing_from (i + 1) x y)) ≡ first_of (pick t (differing_from (i + 1) x y) (i ∷ differing_from (i + 1) x y))
    by_test true e = e
    by_test false e = rw (le-ltb i from h)

-- those below the given offset are passed over
skips : (n i : ℕ) (x y : List ℕ) → next_from (i + n) (differing_from i x y) ≡ first_of (differing_from (i + n) (drop n x) (drop n y))
unfolding differing_from next_from
skips zero i x y = rw add-zero (none_below i i x y (omega arith))
skips (suc n) i [] [] = refl
skips (suc n) i [] (b ∷ y) =
    let e : i + suc n ≡ i + 1 + n = omega arith in
    let later : next_from (i + suc n) (differing_from (i + 1) [] y) ≡ first_of (differing_from (i + suc n) [] (drop n y)) =
    rw e (rw drop-nil at (skips n (i + 1) [] y)) in
    rw (lt-ltb i (i + suc n) (omega arith)) later
skips (suc n) i (a ∷ x) [] =
    let e : i + suc n ≡ i + 1 + n = omega arith in
    let later : next_from (i + suc n) (differing_from (i + 1) x []) ≡ first_of (differing_from (i + suc n) (drop n x) []) =
    rw e (rw drop-nil at (skips n (i + 1) x [])) in
    rw (lt-ltb i (i + suc n) (omega arith)) later
skips (suc n) i (a ∷ x) (b ∷ y) =
    let e : i + suc n ≡ i + 1 + n = omega arith in
    let later : next_from (i + suc n) (differing_from (i + 1) x y) ≡ first_of (differing_from (i + suc n) (drop n x) (drop n y)) = rw e (skips n (i + 1) x y) in
    by_test (eqb a b) later
  where
    by_test : (t : Bool) → next_from (i + suc n) (differing_from (i + 1) x y) ≡ first_of (differing_from (i + suc n) (drop n x) (drop n y))
        → next_from (i + suc n) (pick t (differing_from (i + 1) x y) (i ∷ differing_from (i + 1) x y)) ≡ first_of (differing_from (i + suc n) (drop n x) (drop n y))
    by_test true e = e
    by_test false e = rw (lt-ltb i (i + suc n) (omega arith)) e

-- ---- next_differing

pub drop-next : (x : List ℕ) (i : ℕ) → i < length x → drop i x ≡ get_or x i 0 ∷ drop (i + 1) x
drop-next x i h = let e : suc i ≡ i + 1 = omega arith in drop-cons x i 0 h ∙ ap (λ n. get_or x i 0 ∷ drop n x) e

module _ (x y : List ℕ) where
  -- both bytes are there
  both-there : (i : ℕ) → i < length x → i < length y
      → from_offset x y i ≡ pick (eqb (get_or x i 0) (get_or y i 0)) (from_offset x y (i + 1)) (i ∷ from_offset x y (i + 1))
  unfolding differing_from
  both-there i h k = rw (drop-next x i h, drop-next y i k)

  first-there : (i : ℕ) → i < length x → length y ≤ i → from_offset x y i ≡ i ∷ from_offset x y (i + 1)
  unfolding differing_from
  first-there i h k = let l : length y ≤ i + 1 = omega arith in rw (drop-next x i h, drop_of_length-le y k, drop_of_length-le y l)

  second-there : (i : ℕ) → length x ≤ i → i < length y → from_offset x y i ≡ i ∷ from_offset x y (i + 1)
  unfolding differing_from
  second-there i h k = let l : length x ≤ i + 1 = omega arith in rw (drop-next y i k, drop_of_length-le x h, drop_of_length-le x l)

  pub none-there : (i : ℕ) → max (length x) (length y) ≤ i → from_offset x y i ≡ []
  unfolding differing_from
  none-there i h = let l : length x ≤ i = omega arith in let k : length y ≤ i = omega arith in rw (drop_of_length-le x l, drop_of_length-le y k)

  -- the list from an offset on has it exactly if the packets differ there
  pub there-or-not : (i : ℕ) → i < max (length x) (length y) → from_offset x y i ≡ pick (differs_at x y i) (i ∷ from_offset x y (i + 1)) (from_offset x y (i + 1))
  there-or-not i h =
      ⊎_elim
      (λ p. ⊎_elim
      (λ q. both-there i p q ∙ (rw (← differs-both x y i p q) (turned (eqb (get_or x i 0) (get_or y i 0)))))
      (λ q. first-there i p q ∙ rw (← differs-first x y i p q))
      (below_or_not i (length y)))
      (λ p. let q : i < length y = omega arith in second-there i p q ∙ rw (← differs-second x y i p, lt-ltb i (length y) q))
      (below_or_not i (length x))
    where
      turned : (t : Bool) → pick t (from_offset x y (i + 1)) (i ∷ from_offset x y (i + 1)) ≡ pick (not t) (i ∷ from_offset x y (i + 1)) (from_offset x y (i + 1))
      turned true = refl
      turned false = refl

-- ---- same_eight, equal_until

-- a test of eight bytes that holds says that they are the same
pub record SameEight (x y : List ℕ) (i : ℕ) (t : Bool) : Type 0 where
  pub same : t ≡ true → take 8 (drop i x) ≡ take 8 (drop i y)

module _ (x : List ℕ) (i : ℕ) (bytes : (k : ℕ) → get_or x k 0 < 256) where
  part_bytes : (k : ℕ) → get_or (take 8 (drop i x)) k 0 < 256
  part_bytes k = ⊎_elim inside outside (below_or_not k 8)
    where
      inside : k < 8 → get_or (take 8 (drop i x)) k 0 < 256
      inside h = rw (get_or-take 8 (drop i x) k 0 h, get_or-drop) (bytes (i + k))

      outside : 8 ≤ k → get_or (take 8 (drop i x)) k 0 < 256
      outside h =
          let n : length (take 8 (drop i x)) ≤ k = rw length-take (omega arith) in
          rw (get_or-eq_default (take 8 (drop i x)) 0 {n = k} n) (omega arith)

  -- eight bytes are those of the number that they say
  eight-bytes : i + 8 ≤ length x → take 8 (drop i x) ≡ bytes_of 8 (field 8 x i)
  eight-bytes h =
      let n : length (take 8 (drop i x)) ≡ 8 = length-take-le 8 (drop i x) (rw length-drop (omega arith)) in
      sym (ap (λ k. bytes_of k (field 8 x i)) (sym n) ∙ bytes_of-le (take 8 (drop i x)) part_bytes)

small : (x : List ℕ) → ((k : ℕ) → Fits w8 (get_or x k 0)) → (k : ℕ) → get_or x k 0 < 256
small x f k = omega (arith, (f k).fits)

pub eight-same : (x y : List ℕ) (i : ℕ) → ((k : ℕ) → Fits w8 (get_or x k 0)) → ((k : ℕ) → Fits w8 (get_or y k 0)) → i + 8 ≤ length x → i + 8 ≤ length y
    → (m n : ℕ) → m ≡ field 8 x i → n ≡ field 8 y i → SameEight x y i (eqb m n)
eight-same x y i p q h k m n e d =
    record {
      same = λ t. eight-bytes x i (small x p) h ∙ (ap (bytes_of 8) (sym e ∙ (eqb-true m n t ∙ d)) ∙ sym (eight-bytes y i (small y q) k));
    }

-- equal bytes at the front give no offset
front-equal : (p : List ℕ) (i : ℕ) (x y : List ℕ) → differing_from i (p ++ x) (p ++ y) ≡ differing_from (i + length p) x y
unfolding differing_from
front-equal [] i x y = rw add-zero
front-equal (m ∷ p) i x y =
    let e : i + 1 + length p ≡ i + suc (length p) = omega arith in
    rw (eq-eqb m m refl) (front-equal p (i + 1) x y ∙ ap (λ n. differing_from n x y) e)

module _ (x y : List ℕ) (from i : ℕ) (w : from_offset x y from ≡ from_offset x y i) (end : ℕ) (short : end ≡ min (length x) (length y)) (h : i < end) where
  module _ (all : 8 ≤ end - i) where
    pub eight-first : i + 8 ≤ length x
    eight-first = omega arith

    pub eight-second : i + 8 ≤ length y
    eight-second = omega arith

    pub eight-on : (t : Bool) → SameEight x y i t → not t ≡ false → from_offset x y from ≡ from_offset x y (i + 8)
    eight-on t s n =
        let e : take 8 (drop i x) ≡ take 8 (drop i y) = s.same (not-false t n) in
        let a : drop i x ≡ take 8 (drop i x) ++ drop (i + 8) x = sym (take-append-drop 8 (drop i x)) ∙ rw drop-drop in
        let b : drop i y ≡ take 8 (drop i x) ++ drop (i + 8) y = sym (take-append-drop 8 (drop i y)) ∙ rw (drop-drop, ← e) in
        let k : length (take 8 (drop i x)) ≡ 8 = length-take-le 8 (drop i x) (rw length-drop (omega arith)) in
        w ∙ (ap (λ l. differing_from i l (drop i y)) a ∙ (ap (λ l. differing_from i (take 8 (drop i x) ++ drop (i + 8) x) l) b
        ∙ (front-equal (take 8 (drop i x)) i (drop (i + 8) x) (drop (i + 8) y) ∙ ap (λ n. differing_from (i + n) (drop (i + 8) x) (drop (i + 8) y)) k)))

    pub eight-more : (t : Bool) → SameEight x y i t → t ≡ true → from_offset x y from ≡ from_offset x y (i + 8)
    eight-more t s h = eight-on t s (rw h)

pub ruleset going_by_eight = (eight-first, eight-second, eight-on, eight-more, rules)

module _ (x y : List ℕ) (from : ℕ) where
  abbrev asked : Option ℕ
  asked = next_from from (differing x y)

  pub next_start : asked ≡ first_of (from_offset x y from)
  next_start = rw zero-add at (skips from 0 x y)

  pub next-begin : (i : ℕ) → from_offset x y from ≡ from_offset x y i → asked ≡ first_of (from_offset x y i)
  next-begin i e = next_start ∙ ap first_of e

  module _ (i : ℕ) (w : asked ≡ first_of (from_offset x y i)) (end : ℕ) (long : end ≡ max (length x) (length y)) where
    pub next-none : end ≤ i → None ≡ asked
    next-none h = rw (w, none-there x y i (rw (← long) h))

    module _ (h : i < end) (b : Bool) (is : b ≡ differs_at x y i) where
      pub next_here : b ≡ true → Some i ≡ asked
      next_here t = rw (w, there-or-not x y i (rw (← long) h), ← is, t)

      pub next-on : b ≡ false → asked ≡ first_of (from_offset x y (i + 1))
      next-on t = w ∙ rw (there-or-not x y i (rw (← long) h), ← is, t)

pub ruleset seeking = (next-begin, next-none, next_here, next-on, rules)
