-- `dirty` meets its contract. Assumes nothing.
use Rattle.packet_apply.specs.Apply.{reading_resources}
use Rattle.packet_apply.proofs.apply.dirty.Goals as goal

pub returns : goal.returns
returns c = search reading_resources
