-- `zelezmut_record` meets its contract. Assumes nothing.
use Rattle.zelezmut.specs.Saying.{saying_record}
use Rattle.zelezmut.proofs.device.zelezmut_record.Goals as goal

pub returns : goal.returns
returns c = search saying_record
