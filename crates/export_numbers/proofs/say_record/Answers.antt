-- `say_record` meets its contract. Assumes nothing.
use Rattle.export_numbers.specs.Saying.{saying_record}
use Rattle.export_numbers.proofs.say_record.Goals as goal

pub returns : goal.returns
returns c = search saying_record
