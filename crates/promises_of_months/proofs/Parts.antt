-- The theorems of specs/Parts.antt, and what they rest on. Assumes nothing.
use Rattle.std.proofs.Math.Path.{◌≡◌}
use Rattle.std.proofs.Common.{sym, ap, ◌∙◌}
use Rattle.std.proofs.Math.Bool.{true}
use mathlib.Core.List.{List, [], ◌++◌}
use Rattle.rules.specs.Numbers.{done}
use Rattle.rules.specs.Month.{Finished, totals, below, merged, counted, answers}
use Rattle.promises_of_months.specs.Sums.{below-front, below-back}
use Rattle.promises_of_months.proofs.Counted.{month-below}
use Rattle.promises_of_months.specs.Parts.{good-append, good-counted, good_ones, no-nine-counted, no_nine, together}

-- ---- merging

module _ (ss ts : List Finished) where
  -- the totals of parts, merged, are the totals of all: where no 9 arises in feeding all
  pub parts-of-all : no_nine (answers (ss ++ ts)) ≡ true → merged (totals (counted ss)) (totals (counted ts)) ≡ record { answer = done; totals = totals (counted (ss ++ ts)) }
  parts-of-all h =
      let all : counted (ss ++ ts) ≡ good_ones ss ++ good_ones ts = no-nine-counted [] (ss ++ ts) h ∙ good-append ss ts in
      let small : below (totals (good_ones ss ++ good_ones ts)) ≡ true = ap (λ g. below (totals g)) (sym all) ∙ month-below (ss ++ ts) in
      (together ss ts) (good-counted [] ss (below-front (good_ones ss) (good_ones ts) small)) (good-counted [] ts (below-back (good_ones ss) (good_ones ts) small)) small
