-- `say_class_number` meets its contract. Assumes nothing.
use Rattle.export_difference.specs.Saying.{saying_word}
use Rattle.export_difference.proofs.say_class_number.Goals as goal

pub returns : goal.returns
returns c = search saying_word
