-- `check_file` meets its contract. Assumes nothing.
use Rattle.saved_check.specs.File.{judging_file}
use Rattle.saved_check.proofs.check_file.Goals as goal

pub returns-then-before-eq0 : goal.returns-then-before-eq0
returns-then-before-eq0 c = search judging_file

pub overflow_add-result : goal.overflow_add-result
overflow_add-result c = search judging_file

pub returns-in-Ok : goal.returns-in-Ok
returns-in-Ok c = search judging_file

pub returns-in-Err : goal.returns-in-Err
returns-in-Err c = search judging_file
