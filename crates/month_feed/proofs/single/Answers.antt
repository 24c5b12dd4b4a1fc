-- `single` meets its contract. Assumes nothing.
use Rattle.month_feed.specs.Feeding.{Single-of}
use Rattle.month_feed.proofs.single.Goals as goal

pub returns : goal.returns
returns c = search Single-of
