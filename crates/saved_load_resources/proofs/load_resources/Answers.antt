use Rattle.std.proofs.Common.{arith}
use Rattle.saved_load_resources.specs.Loading.{loading_rows}
use Rattle.saved_load_resources.proofs.load_resources.Goals as goal

pub loop-i-init : goal.loop-i-init
loop-i-init c = (omega arith, search loading_rows)

pub loop-i-preserved : goal.loop-i-preserved
loop-i-preserved c = (omega arith, search loading_rows)
