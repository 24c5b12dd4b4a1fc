-- `Totals::merge` meets its contract. Assumes nothing.
use Rattle.month.specs.Views.{by_value}
use Rattle.month.proofs.Totals.merge.Goals as goal

pub returns : goal.returns
returns c = search by_value
