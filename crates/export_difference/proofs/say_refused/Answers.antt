-- `say_refused` meets its contract. Assumes nothing.
use Rattle.export_difference.specs.Saying.{saying_word}
use Rattle.export_difference.proofs.say_refused.Goals as goal

pub returns : goal.returns
returns c = search saying_word
