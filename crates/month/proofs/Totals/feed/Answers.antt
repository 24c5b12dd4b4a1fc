-- `Totals::feed` meets its contract. Assumes nothing.
use Rattle.month.specs.Views.{by_value}
use Rattle.month.proofs.Totals.feed.Goals as goal

pub returns : goal.returns
returns c = search by_value
