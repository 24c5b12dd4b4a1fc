use Rattle.std.proofs.Common.{arith}
use Rattle.text_numbers.specs.Numbers.{writing_decimal, digits-next}
use Rattle.text_numbers.proofs.put_decimal.Goals as goal

pub loop-i-init : goal.loop-i-init
loop-i-init c = (omega arith, search writing_decimal)

pub loop-i-preserved : goal.loop-i-preserved
loop-i-preserved c = (omega arith, search digits-next)
