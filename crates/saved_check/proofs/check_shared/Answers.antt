-- `check_shared` meets its contract. Assumes nothing.
use Rattle.saved_check.specs.Whole.{judging_shared}
use Rattle.saved_check.proofs.check_shared.Goals as goal

pub overflow_mul-n : goal.overflow_mul-n
overflow_mul-n c = search judging_shared

pub overflow_add-at-in-Ok-2 : goal.overflow_add-at-in-Ok-2
overflow_add-at-in-Ok-2 c = search judging_shared

pub check_tokens-requires : goal.check_tokens-requires
check_tokens-requires c = search judging_shared

pub returns-in-Err : goal.returns-in-Err
returns-in-Err c = search judging_shared

pub returns-in-Ok : goal.returns-in-Ok
returns-in-Ok c = search judging_shared
