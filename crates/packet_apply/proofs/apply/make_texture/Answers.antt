-- `make_texture` meets its contract. Assumes nothing.
use Rattle.packet_apply.specs.Apply.{changing}
use Rattle.packet_apply.proofs.apply.make_texture.Goals as goal

pub returns : goal.returns
returns c = search changing
