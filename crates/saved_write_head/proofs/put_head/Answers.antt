-- `put_head` meets its contract, a law for each form. Assumes nothing.
use Rattle.saved_write_head.specs.Head.{writing_head}
use Rattle.saved_write_head.proofs.put_head.Goals as goal

pub put_memory-requires-in-Two : goal.put_memory-requires-in-Two
put_memory-requires-in-Two c = search writing_head

pub returns-in-One : goal.returns-in-One
returns-in-One c = search writing_head

pub returns-in-Two : goal.returns-in-Two
returns-in-Two c = search writing_head
