-- `u32_at` meets its contract, by `reads-four`. Assumes nothing.
use Rattle.words.specs.Fields.{reading}
use Rattle.words.proofs.u32_at.Goals as goal

pub returns : goal.returns
returns c = search reading
