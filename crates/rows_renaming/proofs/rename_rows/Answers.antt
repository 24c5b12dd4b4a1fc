use Rattle.rows_renaming.specs.Renaming.{renaming_rows}
use Rattle.rows_renaming.proofs.rename_rows.Goals as goal

pub loop-i-init : goal.loop-i-init
loop-i-init c = search renaming_rows

pub loop-i-preserved : goal.loop-i-preserved
loop-i-preserved c = search renaming_rows
