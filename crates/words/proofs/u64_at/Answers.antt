-- `u64_at` meets its contract, by `reads-eight`. Assumes nothing.
use Rattle.words.specs.Fields.{reading}
use Rattle.words.proofs.u64_at.Goals as goal

pub returns : goal.returns
returns c = search reading
