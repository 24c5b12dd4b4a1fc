-- `put_memory` meets its contract, by `memory-written`. Assumes nothing.
use Rattle.saved_write_head.specs.Head.{writing_memory}
use Rattle.saved_write_head.proofs.put_memory.Goals as goal

pub returns : goal.returns
returns c = search writing_memory
