-- `left` meets its contract. Assumes nothing.
use Rattle.register_writes.specs.Writing.{leaving}
use Rattle.register_writes.proofs.left.Goals as goal

pub returns-then-acked : goal.returns-then-acked
returns-then-acked c = search leaving

pub returns-else-acked : goal.returns-else-acked
returns-else-acked c = search leaving
