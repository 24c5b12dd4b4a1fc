-- `merge` meets its contract. Assumes nothing.
use Rattle.month_totals.specs.Merging.{merging}
use Rattle.month_totals.proofs.merge.Goals as goal

pub returns-then-not-fit : goal.returns-then-not-fit
returns-then-not-fit c = search merging

pub returns : goal.returns
returns c = search merging
