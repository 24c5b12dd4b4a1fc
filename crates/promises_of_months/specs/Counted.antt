-- Which submissions are counted, when each answer is given, and that the totals after any feeds are the sums over exactly the counted ones.
-- Assumes nothing.
use Rattle.std.specs.Prelude.{◌≡◌, refl, Bool, true, false, List, [], ◌∷◌, ◌++◌}
use Rattle.std.proofs.Common.{sym, ap, ◌∙◌}
use Rattle.machine.specs.Machine.{pick}
use Rattle.rules.specs.Numbers.{done}
use Rattle.rules.specs.Lists.{pushed}
use Rattle.rules.specs.Month.{Finished, Totals, totals, below, joined, merged, fed, fed_all, told_all, good_feed, feed_answer, with_fed, counted_after, answers_after, counted, answers}
use Rattle.rules.specs.Numbers.{too_much, bad_feed}
use Rattle.promises_of_months.specs.Sums.{totals-append}

-- ---- one feed, on any totals

module _ (t : Totals) (s : Finished) where
  pub fed-ten : good_feed s ≡ false → fed t s ≡ record { answer = bad_feed; totals = t }
  unfolding fed
  fed-ten p = rw p

  pub fed-nine : good_feed s ≡ true → below (joined t (totals (s ∷ []))) ≡ false → fed t s ≡ record { answer = too_much; totals = t }
  unfolding fed merged
  fed-nine p q = rw (p, q)

  pub fed-done : good_feed s ≡ true → below (joined t (totals (s ∷ []))) ≡ true → fed t s ≡ record { answer = done; totals = joined t (totals (s ∷ [])) }
  unfolding fed merged
  fed-done p q = rw (p, q)

  -- a refused feed leaves every total, whatever the totals were
  pub fed-leaves : ((fed t s).answer ≡ done → ⊥) → (fed t s).totals ≡ t
  fed-leaves h = by_test (good_feed s) (below (joined t (totals (s ∷ [])))) refl refl
    where
      by_test : (g b : Bool) → good_feed s ≡ g → below (joined t (totals (s ∷ []))) ≡ b → (fed t s).totals ≡ t
      by_test false b p q = ap (λ f. f.totals) (fed-ten p)
      by_test true false p q = ap (λ f. f.totals) (fed-nine p q)
      by_test true true p q = absurd (h (ap (λ f. f.answer) (fed-done p q)))

-- ---- one feed, after the submissions counted so far

module _ (xs : List Finished) (s : Finished) where
  by-judged : (good small : Bool) → good_feed s ≡ good → below (totals (pushed xs s)) ≡ small → feed_answer xs s ≡ pick good (pick small 0 9) 10
  unfolding feed_answer
  by-judged good small p q = rw (p, q)

  -- "refused first, with 10"
  pub ten-when : good_feed s ≡ false → feed_answer xs s ≡ bad_feed
  ten-when p = by-judged false (below (totals (pushed xs s))) p refl

  -- "refused with 9": a good feed, with which a total would reach 2^64
  pub nine-when : good_feed s ≡ true → below (totals (pushed xs s)) ≡ false → feed_answer xs s ≡ too_much
  nine-when p q = by-judged true false p q

  pub counts-when : good_feed s ≡ true → below (totals (pushed xs s)) ≡ true → feed_answer xs s ≡ done
  counts-when p q = by-judged true true p q

  -- and in no other case
  pub record Exactly : Type 0 where
    pub ten : feed_answer xs s ≡ bad_feed → good_feed s ≡ false
    pub nine : feed_answer xs s ≡ too_much → (good_feed s ≡ true) × (below (totals (pushed xs s)) ≡ false)
    pub counts : feed_answer xs s ≡ done → (good_feed s ≡ true) × (below (totals (pushed xs s)) ≡ true)
    -- "counts nothing"
    pub leaves : (feed_answer xs s ≡ done → ⊥) → with_fed xs s ≡ xs

  -- fed to totals alone: the same answer, and the totals of what is counted then
  pub fed-totals : fed (totals xs) s ≡ record { answer = feed_answer xs s; totals = totals (with_fed xs s) }
  fed-totals = by_test (good_feed s) (below (totals (pushed xs s))) refl refl
    where
      whole : totals (pushed xs s) ≡ joined (totals xs) (totals (s ∷ []))
      whole = totals-append xs (s ∷ [])

      by_test : (g b : Bool) → good_feed s ≡ g → below (totals (pushed xs s)) ≡ b → fed (totals xs) s ≡ record { answer = feed_answer xs s; totals = totals (with_fed xs s) }
      by_test false b p q = fed-ten (totals xs) s p ∙ rw (ten-when p)
      by_test true false p q = fed-nine (totals xs) s p (sym (ap below whole) ∙ q) ∙ rw (nine-when p q)
      by_test true true p q = fed-done (totals xs) s p (sym (ap below whole) ∙ q) ∙ rw (counts-when p q, whole)

-- ---- any feeds

-- "The sums equal those of all counted"
pub fed-all-totals : (xs ss : List Finished) → fed_all (totals xs) ss ≡ totals (counted_after xs ss)
unfolding fed_all counted_after
fed-all-totals xs [] = refl
fed-all-totals xs (s ∷ ss) = ap (λ f. fed_all f.totals ss) (fed-totals xs s) ∙ fed-all-totals (with_fed xs s) ss

pub told-all-answers : (xs ss : List Finished) → told_all (totals xs) ss ≡ answers_after xs ss
unfolding told_all answers_after
told-all-answers xs [] = refl
told-all-answers xs (s ∷ ss) =
    ap (λ f. f.answer ∷ told_all f.totals ss) (fed-totals xs s) ∙ ap (λ rs. feed_answer xs s ∷ rs) (told-all-answers (with_fed xs s) ss)

module _ (ss : List Finished) where
  pub month-totals : fed_all (totals []) ss ≡ totals (counted ss)
  month-totals = fed-all-totals [] ss

  pub month-answers : told_all (totals []) ss ≡ answers ss
  month-answers = told-all-answers [] ss

-- "whatever split they were fed in"
pub counted-split : (xs ss ts : List Finished) → counted_after xs (ss ++ ts) ≡ counted_after (counted_after xs ss) ts
unfolding counted_after
counted-split xs [] ts = refl
counted-split xs (s ∷ ss) ts = counted-split (with_fed xs s) ss ts

pub answers-split : (xs ss ts : List Finished) → answers_after xs (ss ++ ts) ≡ answers_after xs ss ++ answers_after (counted_after xs ss) ts
unfolding answers_after counted_after
answers-split xs [] ts = refl
answers-split xs (s ∷ ss) ts = ap (λ rs. feed_answer xs s ∷ rs) (answers-split (with_fed xs s) ss ts)

pub fed-split : (t : Totals) (ss ts : List Finished) → fed_all t (ss ++ ts) ≡ fed_all (fed_all t ss) ts
unfolding fed_all
fed-split t [] ts = refl
fed-split t (s ∷ ss) ts = fed-split (fed t s).totals ss ts
