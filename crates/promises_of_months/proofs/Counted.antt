-- The theorems of specs/Counted.antt, and what they rest on. Assumes nothing.
use Rattle.std.specs.Prelude.{◌≡◌, refl, Bool, true, false, List, [], ◌∷◌, ◌++◌, ◌<◌, eqb}
use Rattle.std.proofs.Common.{arith, eqb-true}
use Rattle.rules.specs.Numbers.{done}
use Rattle.rules.specs.Lists.{pushed}
use Rattle.rules.specs.Month.{Finished, totals, below, fed_all, good_feed, feed_answer, with_fed, counted_after, counted}
use Rattle.rules.specs.Numbers.{too_much}
use Rattle.promises_of_months.specs.Sums.{below-nothing, largest-below}
use Rattle.promises_of_months.specs.Counted.{Exactly, counts-when, nine-when, ten-when}

-- ---- one feed, after the submissions counted so far

module _ (xs : List Finished) (s : Finished) where
  pub exactly : (Exactly xs s)
  exactly = by_test (good_feed s) (below (totals (pushed xs s))) refl refl
    where
      by_test : (g b : Bool) → good_feed s ≡ g → below (totals (pushed xs s)) ≡ b → (Exactly xs s)
      by_test false b p q =
          let e : feed_answer xs s ≡ 10 = (ten-when xs s) p in
          record { ten = λ r. p; nine = λ r. absurd (omega arith); counts = λ r. absurd (omega arith); leaves = λ r. rw e }
      by_test true false p q =
          let e : feed_answer xs s ≡ 9 = (nine-when xs s) p q in
          record { ten = λ r. absurd (omega arith); nine = λ r. (p, q); counts = λ r. absurd (omega arith); leaves = λ r. rw e }
      by_test true true p q =
          let e : feed_answer xs s ≡ 0 = (counts-when xs s) p q in
          record { ten = λ r. absurd (omega arith); nine = λ r. absurd (omega arith); counts = λ r. (p, q); leaves = λ r. absurd (r e) }

-- ---- any feeds

-- "Totals stay below 2^64"
with-fed-below : (xs : List Finished) (s : Finished) → below (totals xs) ≡ true → below (totals (with_fed xs s)) ≡ true
with-fed-below xs s h = by_test (eqb (feed_answer xs s) done) refl
  where
    by_test : (t : Bool) → eqb (feed_answer xs s) done ≡ t → below (totals (with_fed xs s)) ≡ true
    by_test true e = rw e ((exactly xs s).counts (eqb-true (feed_answer xs s) done e)).1
    by_test false e = rw e h

pub counted-below : (xs ss : List Finished) → below (totals xs) ≡ true → below (totals (counted_after xs ss)) ≡ true
unfolding counted_after
counted-below xs [] h = h
counted-below xs (s ∷ ss) h = counted-below (with_fed xs s) ss (with-fed-below xs s h)

module _ (ss : List Finished) where
  pub month-below : below (totals (counted ss)) ≡ true
  month-below = counted-below [] ss below-nothing

  pub month-largest : (totals (counted ss)).largest < 18446744073709551616
  month-largest = largest-below (counted ss) month-below
