-- `one_more` meets its contract. Assumes nothing.
use Rattle.settle_registers.specs.Signals.{signalling}
use Rattle.settle_registers.proofs.one_more.Goals as goal

pub returns-then-errors-ge-MOST_ERRORS : goal.returns-then-errors-ge-MOST_ERRORS
returns-then-errors-ge-MOST_ERRORS c = search signalling

pub returns : goal.returns
returns c = search signalling
