use Rattle.diff_bytes.specs.Differing.{going_by_eight}
use Rattle.diff_bytes.proofs.equal_until.Goals as goal

pub loop-i-preserved : goal.loop-i-preserved
loop-i-preserved c = search going_by_eight
