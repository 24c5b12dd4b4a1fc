-- `check_head` meets its contract. Assumes nothing.
use Rattle.saved_head.specs.Head.{judging_head}
use Rattle.saved_head.proofs.check_head.Goals as goal

pub overflow_add-more : goal.overflow_add-more
overflow_add-more c = search judging_head

pub overflow_mul-more : goal.overflow_mul-more
overflow_mul-more c = search judging_head

pub overflow_add-more-2 : goal.overflow_add-more-2
overflow_add-more-2 c = search judging_head

pub check_memory-requires : goal.check_memory-requires
check_memory-requires c = search judging_head

pub returns : goal.returns
returns c = search judging_head
