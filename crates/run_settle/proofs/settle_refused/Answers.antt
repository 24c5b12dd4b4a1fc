-- `settle_refused` meets its contract. Assumes nothing.
use Rattle.run_settle.specs.Settling.{refusing}
use Rattle.run_settle.proofs.settle_refused.Goals as goal

pub returns : goal.returns
returns c = search refusing
