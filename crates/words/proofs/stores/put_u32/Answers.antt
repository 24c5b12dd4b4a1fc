-- `put_u32` meets its contract, by `puts-four`. Assumes nothing.
use Rattle.words.specs.Stores.{writing}
use Rattle.words.proofs.stores.put_u32.Goals as goal

pub returns : goal.returns
returns c = search writing
