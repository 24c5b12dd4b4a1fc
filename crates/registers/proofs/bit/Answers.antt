-- `bit` meets its contract. Assumes nothing.
use Rattle.registers.specs.Laws.{bits}
use Rattle.registers.proofs.bit.Goals as goal

pub returns-then-word-eq0 : goal.returns-then-word-eq0
returns-then-word-eq0 c = search bits

pub returns-else-word-eq0 : goal.returns-else-word-eq0
returns-else-word-eq0 c = search bits
