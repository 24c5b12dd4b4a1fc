-- `say_found` meets its contract. Assumes nothing.
use Rattle.export_difference.specs.Saying.{saying_found}
use Rattle.export_difference.proofs.say_found.Goals as goal

pub returns-in-Ok : goal.returns-in-Ok
returns-in-Ok c = search saying_found

pub returns-in-Err : goal.returns-in-Err
returns-in-Err c = search saying_found
