use Rattle.saved_write_shared.specs.Shared.{writing_names}
use Rattle.saved_write_shared.proofs.names.put_names.Goals as goal

pub loop-i-init : goal.loop-i-init
loop-i-init c = search writing_names

pub loop-i-preserved : goal.loop-i-preserved
loop-i-preserved c = search writing_names
