-- `say` meets its contract. Assumes nothing.
use Rattle.export_difference.specs.Saying.{saying_one}
use Rattle.export_difference.proofs.say.Goals as goal

pub returns : goal.returns
returns c = search saying_one
