use Rattle.saved_write.specs.Resources.{writing_resources}
use Rattle.saved_write.proofs.resources.put_resources.Goals as goal

pub loop-i-init : goal.loop-i-init
loop-i-init c = search writing_resources

pub loop-i-preserved : goal.loop-i-preserved
loop-i-preserved c = search writing_resources
