-- `put_u64` meets its contract, by `puts-eight`. Assumes nothing.
use Rattle.words.specs.Stores.{writing}
use Rattle.words.proofs.stores.put_u64.Goals as goal

pub returns : goal.returns
returns c = search writing
