-- `settle_accepted` meets its contract. Assumes nothing.
use Rattle.run_settle.specs.Settling.{accepting}
use Rattle.run_settle.proofs.settle_accepted.Goals as goal

pub returns : goal.returns
returns c = search accepting
