-- Parts of a month that are totalled apart and merged. Assumes nothing.
use Rattle.std.proofs.Math.Path.{◌≡◌}
use Rattle.std.specs.Prelude.{refl, Bool, not, ℕ, eqb}
use Rattle.std.proofs.Common.{sym, ap, ◌∙◌, arith}
use Rattle.std.proofs.Math.Bool.{true, false}
use mathlib.Core.List.{List, [], ◌∷◌, ◌++◌, append_assoc, append-nil}
use Rattle.machine.specs.Machine.{pick}
use Rattle.rules.specs.Numbers.{done}
use Rattle.rules.specs.Lists.{pushed}
use Rattle.rules.specs.Month.{Finished, Totals, every, totals, below, joined, merged, good_feed, counted_after, answers_after, counted, answers}
use Rattle.rules.specs.Numbers.{too_much}
use Rattle.promises_of_months.specs.Sums.{both_true, totals-append, below-front}
use Rattle.promises_of_months.specs.Counted.{ten-when, nine-when, counts-when}

-- the submissions that are not refused with 10
unfoldable pub good_ones : List Finished → List Finished
good_ones [] = []
good_ones (s ∷ ss) = pick (good_feed s) (s ∷ good_ones ss) (good_ones ss)

abbrev pub no_nine : List ℕ → Bool
no_nine rs = every (λ r. not (eqb r too_much)) rs

module _ (s : Finished) (ss : List Finished) where
  good_more : good_feed s ≡ true → good_ones (s ∷ ss) ≡ s ∷ good_ones ss
  unfolding good_ones
  good_more p = rw p

  good-same : good_feed s ≡ false → good_ones (s ∷ ss) ≡ good_ones ss
  unfolding good_ones
  good-same p = rw p

  with_append : (ts : List Finished) → good_ones (ss ++ ts) ≡ good_ones ss ++ good_ones ts → (g : Bool) → good_feed s ≡ g → good_ones ((s ∷ ss) ++ ts) ≡ good_ones (s ∷ ss) ++ good_ones ts
  unfolding good_ones
  with_append ts ih true p = rw (p, ih)
  with_append ts ih false p = rw (p, ih)

pub good-append : (ss ts : List Finished) → good_ones (ss ++ ts) ≡ good_ones ss ++ good_ones ts
unfolding good_ones
good-append [] ts = refl
good-append (s ∷ ss) ts = with_append s ss ts (good-append ss ts) (good_feed s) refl

module _ (xs : List Finished) (s : Finished) (ss : List Finished) where
  -- one submission that is refused, and one that is counted
  skipped : good_feed s ≡ false → counted_after xs ss ≡ xs ++ good_ones ss → counted_after xs (s ∷ ss) ≡ xs ++ good_ones (s ∷ ss)
  unfolding counted_after
  skipped p ih = rw (ten-when xs s p, good-same s ss p) ih

  taken : good_feed s ≡ true → below (totals (pushed xs s)) ≡ true → counted_after (pushed xs s) ss ≡ pushed xs s ++ good_ones ss
      → counted_after xs (s ∷ ss) ≡ xs ++ good_ones (s ∷ ss)
  unfolding counted_after
  taken p q ih = rw (counts-when xs s p q, good_more s ss p) (ih ∙ append_assoc xs (s ∷ []) (good_ones ss))

  no-nine-step : ((ys : List Finished) → no_nine (answers_after ys ss) ≡ true → counted_after ys ss ≡ ys ++ good_ones ss) → no_nine (answers_after xs (s ∷ ss)) ≡ true
      → (g b : Bool) → good_feed s ≡ g → below (totals (pushed xs s)) ≡ b → counted_after xs (s ∷ ss) ≡ xs ++ good_ones (s ∷ ss)
  unfolding answers_after every
  no-nine-step ih h false b p q = skipped p (ih xs (rw (ten-when xs s p) at h))
  no-nine-step ih h true false p q = absurd (let z : ◌≡◌ {A = Bool} false true = rw (nine-when xs s p q) at h in let y : ◌≡◌ {A = ℕ} 0 1 = cc in omega arith)
  no-nine-step ih h true true p q = taken p q (ih (pushed xs s) (rw (counts-when xs s p q) at h))

  good-step : ((ys : List Finished) → below (totals (ys ++ good_ones ss)) ≡ true → counted_after ys ss ≡ ys ++ good_ones ss) → below (totals (xs ++ good_ones (s ∷ ss))) ≡ true
      → (g : Bool) → good_feed s ≡ g → counted_after xs (s ∷ ss) ≡ xs ++ good_ones (s ∷ ss)
  good-step ih h false p = skipped p (ih xs (ap (λ g. below (totals (xs ++ g))) (sym (good-same s ss p)) ∙ h))
  good-step ih h true p =
      let same : pushed xs s ++ good_ones ss ≡ xs ++ good_ones (s ∷ ss) = append_assoc xs (s ∷ []) (good_ones ss) ∙ ap (λ g. xs ++ g) (sym (good_more s ss p)) in
      let all : below (totals (pushed xs s ++ good_ones ss)) ≡ true = ap (λ g. below (totals g)) same ∙ h in
      taken p (below-front (pushed xs s) (good_ones ss) all) (ih (pushed xs s) all)

-- where no 9 is answered, every good submission is counted
pub no-nine-counted : (xs ss : List Finished) → no_nine (answers_after xs ss) ≡ true → counted_after xs ss ≡ xs ++ good_ones ss
unfolding counted_after good_ones
no-nine-counted xs [] h = sym (append-nil xs)
no-nine-counted xs (s ∷ ss) h = no-nine-step xs s ss (λ ys g. no-nine-counted ys ss g) h (good_feed s) (below (totals (pushed xs s))) refl refl

-- and also where the totals of all good submissions stay below 2^64
pub good-counted : (xs ss : List Finished) → below (totals (xs ++ good_ones ss)) ≡ true → counted_after xs ss ≡ xs ++ good_ones ss
unfolding counted_after good_ones
good-counted xs [] h = sym (append-nil xs)
good-counted xs (s ∷ ss) h = good-step xs s ss (λ ys g. good-counted ys ss g) h (good_feed s) refl

-- ---- merging

module _ (a b : Totals) where
  pub merged-done : below (joined a b) ≡ true → merged a b ≡ record { answer = done; totals = joined a b }
  unfolding merged
  merged-done p = rw p

  pub merged-nine : below (joined a b) ≡ false → merged a b ≡ record { answer = too_much; totals = a }
  unfolding merged
  merged-nine p = rw p

  -- a merge that is done stays below 2^64
  pub merged-only : (merged a b).answer ≡ done → below (joined a b) ≡ true
  merged-only h = by_test (below (joined a b)) refl
    where
      by_test : (t : Bool) → below (joined a b) ≡ t → below (joined a b) ≡ true
      by_test true p = p
      by_test false p = absurd (let e : (merged a b).answer ≡ 9 = ap (λ f. f.answer) (merged-nine p) in omega arith)

  -- a refused merge leaves every total
  pub merged-leaves : ((merged a b).answer ≡ done → ⊥) → (merged a b).totals ≡ a
  merged-leaves h = by_test (below (joined a b)) refl
    where
      by_test : (t : Bool) → below (joined a b) ≡ t → (merged a b).totals ≡ a
      by_test true p = absurd (h (ap (λ f. f.answer) (merged-done p)))
      by_test false p = ap (λ f. f.totals) (merged-nine p)

-- a merge of two months: the sums over the submissions of both; 9 exactly where a sum would reach 2^64
pub merged-totals : (xs ys : List Finished) → merged (totals xs) (totals ys) ≡ pick (below (totals (xs ++ ys))) (record { answer = done; totals = totals (xs ++ ys) }) (record { answer = too_much; totals = totals xs })
unfolding merged
merged-totals xs ys = rw (totals-append xs ys)

module _ (ss ts : List Finished) where
  pub together : counted ss ≡ good_ones ss → counted ts ≡ good_ones ts → below (totals (good_ones ss ++ good_ones ts)) ≡ true
      → merged (totals (counted ss)) (totals (counted ts)) ≡ record { answer = done; totals = totals (counted (ss ++ ts)) }
  together p q h =
      let all : counted (ss ++ ts) ≡ good_ones ss ++ good_ones ts = good-counted [] (ss ++ ts) (ap (λ g. below (totals g)) (good-append ss ts) ∙ h) ∙ good-append ss ts in
      merged-totals (counted ss) (counted ts) ∙ rw (p, q, all, h)

  -- or in feeding the parts and in merging them
  pub parts-apart : no_nine (answers ss) ≡ true → no_nine (answers ts) ≡ true → (merged (totals (counted ss)) (totals (counted ts))).answer ≡ done
      → merged (totals (counted ss)) (totals (counted ts)) ≡ record { answer = done; totals = totals (counted (ss ++ ts)) }
  parts-apart p q h =
      let a : counted ss ≡ good_ones ss = no-nine-counted [] ss p in
      let b : counted ts ≡ good_ones ts = no-nine-counted [] ts q in
      let c : below (totals (counted ss ++ counted ts)) ≡ true = ap below (totals-append (counted ss) (counted ts)) ∙ merged-only (totals (counted ss)) (totals (counted ts)) h in
      together a b (ap (λ g. below (totals g)) (sym (ap (λ x. x ++ counted ts) a ∙ ap (λ x. good_ones ss ++ x) b)) ∙ c)

-- ---- any number of parts

unfoldable pub all_of : List (List Finished) → List Finished
all_of [] = []
all_of (p ∷ ps) = p ++ all_of ps

-- each part totalled apart and merged, one after the other
unfoldable pub merged_all : Totals → List (List Finished) → Totals
merged_all t [] = t
merged_all t (p ∷ ps) = merged_all (merged t (totals (counted p))).totals ps

pub no-nine-front : (rs qs : List ℕ) → no_nine (rs ++ qs) ≡ true → no_nine rs ≡ true
unfolding every
no-nine-front [] qs h = refl
no-nine-front (r ∷ rs) qs h =
    let b : (not (eqb r 9) ≡ true) × (no_nine (rs ++ qs) ≡ true) = both_true (not (eqb r 9)) (no_nine (rs ++ qs)) h in
    rw b.0 (no-nine-front rs qs b.1)
