-- `make_buffer` meets its contract. Assumes nothing.
use Rattle.packet_apply.specs.Apply.{changing}
use Rattle.packet_apply.proofs.apply.make_buffer.Goals as goal

pub returns : goal.returns
returns c = search changing
