-- `fenced_after` meets its contract. Assumes nothing.
use Rattle.settle_registers.specs.Signals.{signalling}
use Rattle.settle_registers.proofs.fenced_after.Goals as goal

pub returns-then-silent : goal.returns-then-silent
returns-then-silent c = search signalling

pub returns : goal.returns
returns c = search signalling
