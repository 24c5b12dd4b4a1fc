use Rattle.program_month.specs.Input.{inputting}
use Rattle.program_month.proofs.input.put_records.Goals as goal

pub loop-i-init : goal.loop-i-init
loop-i-init c = search inputting

pub loop-i-preserved : goal.loop-i-preserved
loop-i-preserved c = search inputting

pub returns : goal.returns
returns c = search inputting
