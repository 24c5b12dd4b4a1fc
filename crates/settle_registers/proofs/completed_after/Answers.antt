-- `completed_after` meets its contract. Assumes nothing.
use Rattle.settle_registers.specs.Signals.{signalling}
use Rattle.settle_registers.proofs.completed_after.Goals as goal

pub returns-then-completed-signal : goal.returns-then-completed-signal
returns-then-completed-signal c = search signalling

pub returns : goal.returns
returns c = search signalling
