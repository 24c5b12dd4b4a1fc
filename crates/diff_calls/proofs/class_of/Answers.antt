-- `class_of` meets its contract. Assumes nothing.
use Rattle.diff_calls.specs.Calls.{asking_class}
use Rattle.diff_calls.proofs.class_of.Goals as goal

pub returns-in-Err : goal.returns-in-Err
returns-in-Err c = search asking_class

pub returns-in-Ok : goal.returns-in-Ok
returns-in-Ok c = search asking_class
