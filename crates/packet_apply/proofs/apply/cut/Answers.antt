-- `cut` meets its contract. Assumes nothing.
use Rattle.packet_apply.specs.Apply.{reading_resources}
use Rattle.packet_apply.proofs.apply.cut.Goals as goal

pub returns : goal.returns
returns c = search reading_resources
