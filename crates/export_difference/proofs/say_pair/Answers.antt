-- `say_pair` meets its contract. Assumes nothing.
use Rattle.export_difference.specs.Saying.{saying_pair}
use Rattle.export_difference.proofs.say_pair.Goals as goal

pub returns : goal.returns
returns c = search saying_pair
