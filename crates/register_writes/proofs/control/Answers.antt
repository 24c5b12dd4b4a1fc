-- `control` meets its contract. Assumes nothing.
use Rattle.register_writes.specs.Writing.{controlling}
use Rattle.register_writes.proofs.control.Goals as goal

pub returns-then-bit_1 : goal.returns-then-bit_1
returns-then-bit_1 c = search controlling

pub returns-else-bit_1 : goal.returns-else-bit_1
returns-else-bit_1 c = search controlling
