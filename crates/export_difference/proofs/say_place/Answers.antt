-- `say_place` meets its contract. Assumes nothing.
use Rattle.export_difference.specs.Saying.{saying_found}
use Rattle.export_difference.proofs.say_place.Goals as goal

pub returns-in-Some : goal.returns-in-Some
returns-in-Some c = search saying_found

pub returns-in-None : goal.returns-in-None
returns-in-None c = search saying_found
