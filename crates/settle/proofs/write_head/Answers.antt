-- `write_head` meets its contract, by the laws of `writing`. Assumes nothing.
use Rattle.settle.specs.Laws.{writing}
use Rattle.settle.proofs.write_head.Goals as goal

pub returns-then-beyond : goal.returns-then-beyond
returns-then-beyond c = search writing

pub returns : goal.returns
returns c = search writing
