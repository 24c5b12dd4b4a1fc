use Rattle.std.proofs.Common.{arith}
use Rattle.saved_names.specs.Names.{judging_names}
use Rattle.saved_names.proofs.judge_names.Goals as goal

pub loop-preserved : goal.loop-preserved
loop-preserved c = (omega arith, search judging_names)

pub returns : goal.returns
returns c = search judging_names
