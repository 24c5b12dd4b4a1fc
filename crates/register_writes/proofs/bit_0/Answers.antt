-- `bit_0` meets its contract. Assumes nothing.
use Rattle.register_writes.specs.Writing.{bits}
use Rattle.register_writes.proofs.bit_0.Goals as goal

pub returns : goal.returns
returns c = search bits
