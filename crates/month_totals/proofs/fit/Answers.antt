-- `fit` meets its contract: all pairs of sums are tested. Assumes nothing.
use Rattle.std.specs.Prelude.{◌≡◌, Bool, List, ℕ, ◌+◌, take, zip, not}
use Rattle.std.proofs.Common.{[], ◌∷◌, refl, ◌∙◌, rules}
use Rattle.std.proofs.Math.Bool.{true, false}
use Rattle.std.proofs.lemmas.Iterator.{YieldsList-from_slice, YieldsList-from_zip}
use Rattle.std.proofs.lemmas.Iterator.Consumers.{YieldsList-at}
use Rattle.std.proofs.lemmas.Iterator.Search.{all_from_yields_List}
use Rattle.std.specs.List.{list_all}
use borrow.Author.Tests.{tests}
use Rattle.rules.specs.Month.{every, added, small}
use Rattle.month_totals.proofs.fit.Goals as goal

fits : ℕ × ℕ → Bool
fits p = not (not (small (p.0 + p.1)))

all-small : (a b : List ℕ) → list_all fits (zip a b) ≡ every small (added a b)
unfolding fits every added
all-small [] b = refl
all-small (x ∷ a) [] = refl
all-small (x ∷ a) (y ∷ b) = rw (all-small a b, twice (small (x + y)))
  where
    twice : (t : Bool) → not (not t) ≡ t
    twice true = refl
    twice false = refl

pub returns : goal.returns
unfolding fits
returns c =
    let a : List ℕ = take 25 c.args.a.now in
    let b : List ℕ = take 25 c.args.b.now in
    all_from_yields_List fits c.all.new.self _ c.all.result c.all.ensures.ran (YieldsList-from_zip (YieldsList-at c.zip.ensures.first (YieldsList-from_slice a c.iter.ensures.rest)) (YieldsList-from_slice b c.zip.ensures.second.0)) (λ x r q k. search (rules, tests)) ∙ all-small a b
