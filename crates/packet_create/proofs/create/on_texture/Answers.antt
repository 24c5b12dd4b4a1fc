-- `on_texture` meets its contract, by `texture-applies`. Assumes nothing.
use Rattle.packet_create.specs.Create.{arriving}
use Rattle.packet_create.proofs.create.on_texture.Goals as goal

pub returns : goal.returns
returns c = search arriving
