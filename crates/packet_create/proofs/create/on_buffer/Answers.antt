-- `on_buffer` meets its contract, by `buffer-applies`. Assumes nothing.
use Rattle.packet_create.specs.Create.{arriving}
use Rattle.packet_create.proofs.create.on_buffer.Goals as goal

pub returns : goal.returns
returns c = search arriving
