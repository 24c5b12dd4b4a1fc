-- `say_start` meets its contract. Assumes nothing.
use Rattle.export_difference.specs.Saying.{saying_start}
use Rattle.export_difference.proofs.say_start.Goals as goal

pub returns-in-Ok : goal.returns-in-Ok
returns-in-Ok c = search saying_start

pub returns-in-Err : goal.returns-in-Err
returns-in-Err c = search saying_start
