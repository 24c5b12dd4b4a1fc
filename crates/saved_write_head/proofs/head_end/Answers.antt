-- `head_end` meets its contract, a law for each form. Assumes nothing.
use Rattle.saved_write_head.specs.Head.{ending_head}
use Rattle.saved_write_head.proofs.head_end.Goals as goal

pub returns-in-One : goal.returns-in-One
returns-in-One c = search ending_head

pub returns-in-Two : goal.returns-in-Two
returns-in-Two c = search ending_head
