-- Sums and totals of two lists together. Assumes nothing.
use Rattle.std.specs.Prelude.{◌≡◌, Bool, true, false, ◌&&◌}
use Rattle.std.proofs.Math.Path.{refl}
use mathlib.Core.List.{List, [], ◌∷◌, ◌++◌, map}
use Prim.Native.Nat.{ℕ, ◌+◌, ◌≤◌, ◌<◌, max}
use Rattle.std.proofs.Math.Nat.{zero-add}
use Rattle.std.proofs.Common.{add_assoc}
use native.Mathlib.Omega.{arith}
use borrow.Author.Tests.{lt-ltb, ltb-true}
use Rattle.rules.specs.Numbers.{writes}
use Rattle.month_totals.specs.Summing.{every-at}
use Rattle.rules.specs.Month.{Finished, sum, greatest, every, small, totals, below, joined, added, counts, length_in, bytes_in, largest_write}

pub both_true : (a b : Bool) → a && b ≡ true → (a ≡ true) × (b ≡ true)
both_true true b p = (refl, p)
both_true false b p = absurd (let z : ◌≡◌ {A = Bool} false true = p in let q : ◌≡◌ {A = ℕ} 0 1 = cc in omega arith)

module _ {A : Type 0} (f : A → ℕ) where
  pub sum-append : (xs ys : List A) → sum f (xs ++ ys) ≡ sum f xs + sum f ys
  unfolding sum
  sum-append [] ys = rw zero-add
  sum-append (x ∷ xs) ys = rw (sum-append xs ys, add_assoc)

  pub greatest-append : (xs ys : List A) → greatest f (xs ++ ys) ≡ max (greatest f xs) (greatest f ys)
  unfolding greatest
  greatest-append [] ys = omega arith
  greatest-append (x ∷ xs) ys = let e : greatest f (xs ++ ys) ≡ max (greatest f xs) (greatest f ys) = greatest-append xs ys in omega arith

  -- the greatest is no more than the sum
  pub greatest-le : (xs : List A) → greatest f xs ≤ sum f xs
  unfolding greatest sum
  greatest-le [] = omega arith
  greatest-le (x ∷ xs) = let e : greatest f xs ≤ sum f xs = greatest-le xs in omega arith

-- sums over two lists together
module _ (xs ys : List Finished) where
  sums-both : (ps : List (Finished → ℕ)) → map (λ c. sum c (xs ++ ys)) ps ≡ added (map (λ c. sum c xs) ps) (map (λ c. sum c ys) ps)
  unfolding added
  sums-both [] = refl
  sums-both (p ∷ ps) = rw (sum-append p xs ys, sums-both ps)

  -- the totals of two lists together
  pub totals-append : totals (xs ++ ys) ≡ joined (totals xs) (totals ys)
  unfolding totals
  totals-append = rw (sums-both counts, greatest-append largest_write xs ys)

  -- if all are below 2^64, so are some of them
  front_below : (ps : List (Finished → ℕ)) → every small (map (λ c. sum c (xs ++ ys)) ps) ≡ true → every small (map (λ c. sum c xs) ps) ≡ true
  unfolding every
  front_below [] h = refl
  front_below (p ∷ ps) h =
      let b : (small (sum p (xs ++ ys)) ≡ true) × (every small (map (λ c. sum c (xs ++ ys)) ps) ≡ true) = both_true (small (sum p (xs ++ ys))) (every small (map (λ c. sum c (xs ++ ys)) ps)) h in
      let l : sum p (xs ++ ys) < 18446744073709551616 = ltb-true (sum p (xs ++ ys)) 18446744073709551616 b.0 in
      let e : sum p (xs ++ ys) ≡ sum p xs + sum p ys = sum-append p xs ys in
      rw (lt-ltb (sum p xs) 18446744073709551616 (omega arith)) (front_below ps b.1)

  back_below : (ps : List (Finished → ℕ)) → every small (map (λ c. sum c (xs ++ ys)) ps) ≡ true → every small (map (λ c. sum c ys) ps) ≡ true
  unfolding every
  back_below [] h = refl
  back_below (p ∷ ps) h =
      let b : (small (sum p (xs ++ ys)) ≡ true) × (every small (map (λ c. sum c (xs ++ ys)) ps) ≡ true) = both_true (small (sum p (xs ++ ys))) (every small (map (λ c. sum c (xs ++ ys)) ps)) h in
      let l : sum p (xs ++ ys) < 18446744073709551616 = ltb-true (sum p (xs ++ ys)) 18446744073709551616 b.0 in
      let e : sum p (xs ++ ys) ≡ sum p xs + sum p ys = sum-append p xs ys in
      rw (lt-ltb (sum p ys) 18446744073709551616 (omega arith)) (back_below ps b.1)

  pub below-front : below (totals (xs ++ ys)) ≡ true → below (totals xs) ≡ true
  unfolding totals
  below-front h = front_below counts h

  pub below-back : below (totals (xs ++ ys)) ≡ true → below (totals ys) ≡ true
  unfolding totals
  below-back h = back_below counts h

pub below-nothing : below (totals []) ≡ true
unfolding totals sum every
below-nothing = refl

-- a submission's largest write is no more than what it wrote, and so for all
writes-le : (ss : List Finished) → greatest largest_write ss ≤ sum (bytes_in writes) ss
unfolding greatest sum
writes-le [] = omega arith
writes-le (s ∷ ss) =
    let e : greatest largest_write ss ≤ sum (bytes_in writes) ss = writes-le ss in
    let f : largest_write s ≤ bytes_in writes s = greatest-le (length_in writes) s.records in
    omega arith

-- so the largest write is below 2^64 too
pub largest-below : (xs : List Finished) → below (totals xs) ≡ true → (totals xs).largest < 18446744073709551616
unfolding totals
largest-below xs h =
    let w : sum (bytes_in writes) xs < 18446744073709551616 = ltb-true (sum (bytes_in writes) xs) 18446744073709551616 (every-at small (map (λ c. sum c xs) counts) 24 0 (omega arith) h) in
    let g : greatest largest_write xs ≤ sum (bytes_in writes) xs = writes-le xs in
    omega arith
