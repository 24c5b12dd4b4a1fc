-- `finish` meets its contract. Assumes nothing.
use Rattle.run_settle.specs.Settling.{finishing}
use Rattle.run_settle.proofs.finish.Goals as goal

pub returns : goal.returns
returns c = search finishing
