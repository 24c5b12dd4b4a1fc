use Rattle.rows.specs.Rows.{copying}
use Rattle.rows.proofs.copy_words.Goals as goal

pub loop-done-init : goal.loop-done-init
loop-done-init c = search copying

pub loop-done-preserved : goal.loop-done-preserved
loop-done-preserved c = search copying
