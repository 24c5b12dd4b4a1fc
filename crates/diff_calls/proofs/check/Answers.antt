-- `check` meets its contract. Assumes nothing.
use Rattle.diff_calls.specs.Calls.{checking}
use Rattle.diff_calls.proofs.check.Goals as goal

pub returns-in-Err : goal.returns-in-Err
returns-in-Err c = search checking

pub returns-in-Err-fault_of : goal.returns-in-Err-fault_of
returns-in-Err-fault_of c = search checking

pub returns : goal.returns
returns c = search checking
