use Rattle.std.proofs.Common.{arith}
use Rattle.saved_check.specs.Whole.{judging_resources}
use Rattle.saved_check.proofs.check_resources.Goals as goal

pub loop-preserved : goal.loop-preserved
loop-preserved c = (omega arith, search judging_resources)

pub returns : goal.returns
returns c = search judging_resources
