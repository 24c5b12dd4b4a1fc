-- `signal` meets its contract. Assumes nothing.
use Rattle.run_settle.specs.Settling.{signalling}
use Rattle.run_settle.proofs.signal.Goals as goal

pub returns : goal.returns
returns c = search signalling
