use Rattle.rows.specs.Rows.{moving}
use Rattle.rows.proofs.move_row.Goals as goal

pub loop-k-init : goal.loop-k-init
loop-k-init c = search moving

pub loop-k-preserved : goal.loop-k-preserved
loop-k-preserved c = search moving

pub returns : goal.returns
returns c = search moving
