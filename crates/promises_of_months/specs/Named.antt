-- The totals by their names: each is below 2^64, and each word is the sum that its name says. Assumes nothing.
use Rattle.std.specs.Prelude.{◌≡◌, refl, true, List, [], ◌∷◌, map, ℕ, suc, ◌-◌, ◌≤◌, ◌<◌, length, get_or}
use Rattle.std.proofs.Common.{sym, ap, ◌∙◌, arith, ltb-true, lt-ltb, get_or-take}
use Rattle.rules.specs.Numbers.{reads, writes, done}
use Rattle.rules.specs.Lists.{pushed}
use Rattle.rules.specs.Month.{Finished, sum, greatest, every, small, below, totals, counts, ended_with, bytes_in, largest_write, good_feed, feed_answer}
use Rattle.rules.specs.Numbers.{too_much}
use Rattle.month_totals.specs.Views.{totals_in}
use Rattle.month_totals.specs.Summing.{every-at}
use Rattle.month_feed.specs.Judging.{AllFrom, between}
use Rattle.promises_of_months.specs.Sums.{largest-below}

-- the 26 words, where these submissions were counted
pub record Words (l : List ℕ) (xs : List Finished) : Type 0 where
  pub accepted : get_or l 0 0 ≡ sum (ended_with done) xs
  pub refused : (e : ℕ) → 10 ≤ e → e ≤ 30 → get_or l (e - 9) 0 ≡ sum (ended_with e) xs
  pub units : get_or l 22 0 ≡ sum (λ s. s.units) xs
  pub read : get_or l 23 0 ≡ sum (bytes_in reads) xs
  pub written : get_or l 24 0 ≡ sum (bytes_in writes) xs
  pub largest : get_or l 25 0 ≡ greatest largest_write xs

pub words-named : (l : List ℕ) (xs : List Finished) → totals_in l ≡ totals xs → Words l xs
unfolding totals
words-named l xs h =
    record {
      accepted = word 0 (omega arith);
      refused = λ e p q. between (λ e. get_or l (e - 9) 0 ≡ sum (ended_with e) xs) 21 10 each e p (omega arith);
      units = word 22 (omega arith);
      read = word 23 (omega arith);
      written = word 24 (omega arith);
      largest = ap (λ t. t.largest) h;
    }
  where
    word : (i : ℕ) → i < 25 → get_or l i 0 ≡ get_or (map (λ c. sum c xs) counts) i 0
    word i p = sym (get_or-take 25 l i 0 p) ∙ ap (λ t. get_or t.sums i 0) h

    each : AllFrom (λ e. get_or l (e - 9) 0 ≡ sum (ended_with e) xs) 21 10
    each = (word 1 (omega arith), (word 2 (omega arith), (word 3 (omega arith), (word 4 (omega arith), (word 5 (omega arith), (word 6 (omega arith), (word 7 (omega arith), (word 8 (omega arith), (word 9 (omega arith), (word 10 (omega arith), (word 11 (omega arith), (word 12 (omega arith), (word 13 (omega arith), (word 14 (omega arith), (word 15 (omega arith), (word 16 (omega arith), (word 17 (omega arith), (word 18 (omega arith), (word 19 (omega arith), (word 20 (omega arith), (word 21 (omega arith), omega arith)))))))))))))))))))))

-- "Totals stay below 2^64"
pub record Small (xs : List Finished) : Type 0 where
  pub accepted : sum (ended_with done) xs < 18446744073709551616
  pub refused : (e : ℕ) → 10 ≤ e → e ≤ 30 → sum (ended_with e) xs < 18446744073709551616
  pub units : sum (λ s. s.units) xs < 18446744073709551616
  pub read : sum (bytes_in reads) xs < 18446744073709551616
  pub written : sum (bytes_in writes) xs < 18446744073709551616
  pub largest : greatest largest_write xs < 18446744073709551616

pub all_small : (xs : List Finished) → below (totals xs) ≡ true → Small xs
unfolding totals
all_small xs h =
    record {
      accepted = at 0 (omega arith);
      refused = λ e p q. between (λ e. sum (ended_with e) xs < 18446744073709551616) 21 10 each e p (omega arith);
      units = at 22 (omega arith);
      read = at 23 (omega arith);
      written = at 24 (omega arith);
      largest = largest-below xs h;
    }
  where
    at : (i : ℕ) → i < 25 → get_or (map (λ c. sum c xs) counts) i 0 < 18446744073709551616
    at i p = ltb-true (get_or (map (λ c. sum c xs) counts) i 0) 18446744073709551616 (every-at small (map (λ c. sum c xs) counts) i 0 p h)

    each : AllFrom (λ e. sum (ended_with e) xs < 18446744073709551616) 21 10
    each = (at 1 (omega arith), (at 2 (omega arith), (at 3 (omega arith), (at 4 (omega arith), (at 5 (omega arith), (at 6 (omega arith), (at 7 (omega arith), (at 8 (omega arith), (at 9 (omega arith), (at 10 (omega arith), (at 11 (omega arith), (at 12 (omega arith), (at 13 (omega arith), (at 14 (omega arith), (at 15 (omega arith), (at 16 (omega arith), (at 17 (omega arith), (at 18 (omega arith), (at 19 (omega arith), (at 20 (omega arith), (at 21 (omega arith), omega arith)))))))))))))))))))))

-- and the other way round
every-by : (l : List ℕ) → ((i : ℕ) → i < length l → get_or l i 0 < 18446744073709551616) → every small l ≡ true
unfolding every
every-by [] h = refl
every-by (n ∷ l) h = rw (lt-ltb n 18446744073709551616 (h 0 (omega arith))) (every-by l (λ i p. h (suc i) (omega arith)))

pub small-below : (xs : List Finished) → Small xs → below (totals xs) ≡ true
unfolding totals
small-below xs m = every-by (map (λ c. sum c xs) counts) (λ i p. between (λ i. get_or (map (λ c. sum c xs) counts) i 0 < 18446744073709551616) 25 0 each i (omega arith) (omega arith))
  where
    each : AllFrom (λ i. get_or (map (λ c. sum c xs) counts) i 0 < 18446744073709551616) 25 0
    each = (m.accepted, (m.refused 10 (omega arith) (omega arith), (m.refused 11 (omega arith) (omega arith), (m.refused 12 (omega arith) (omega arith), (m.refused 13 (omega arith) (omega arith), (m.refused 14 (omega arith) (omega arith), (m.refused 15 (omega arith) (omega arith), (m.refused 16 (omega arith) (omega arith), (m.refused 17 (omega arith) (omega arith), (m.refused 18 (omega arith) (omega arith), (m.refused 19 (omega arith) (omega arith), (m.refused 20 (omega arith) (omega arith), (m.refused 21 (omega arith) (omega arith), (m.refused 22 (omega arith) (omega arith), (m.refused 23 (omega arith) (omega arith), (m.refused 24 (omega arith) (omega arith), (m.refused 25 (omega arith) (omega arith), (m.refused 26 (omega arith) (omega arith), (m.refused 27 (omega arith) (omega arith), (m.refused 28 (omega arith) (omega arith), (m.refused 29 (omega arith) (omega arith), (m.refused 30 (omega arith) (omega arith), (m.units, (m.read, (m.written, omega arith)))))))))))))))))))))))))

-- 9 exactly where a good submission would make a named total reach 2^64
pub record Nine (xs : List Finished) (s : Finished) : Type 0 where
  pub only : feed_answer xs s ≡ too_much → (good_feed s ≡ true) × (Small (pushed xs s) → ⊥)
  pub when : good_feed s ≡ true → (Small (pushed xs s) → ⊥) → feed_answer xs s ≡ too_much
