-- `put_page` meets its contract, by the laws of `writing`. Assumes nothing.
use Rattle.settle.specs.Laws.{writing}
use Rattle.settle.proofs.put_page.Goals as goal

pub returns : goal.returns
returns c = search writing
