use Rattle.text_numbers.specs.Numbers.{writing_hex, hex-next}
use Rattle.text_numbers.proofs.put_hex.Goals as goal

pub loop-i-init : goal.loop-i-init
loop-i-init c = search writing_hex

pub loop-i-preserved : goal.loop-i-preserved
loop-i-preserved c = search hex-next

pub returns : goal.returns
returns c = search writing_hex
