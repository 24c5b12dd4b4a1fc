use Rattle.saved_write.specs.Fields.{writing_fields}
use Rattle.saved_write.proofs.put_fields.Goals as goal

pub loop-i-init : goal.loop-i-init
loop-i-init c = search writing_fields

pub loop-i-preserved : goal.loop-i-preserved
loop-i-preserved c = search writing_fields
