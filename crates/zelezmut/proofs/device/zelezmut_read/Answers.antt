-- `zelezmut_read` meets its contract. Assumes nothing.
use Rattle.zelezmut.specs.Saying.{saying_value}
use Rattle.zelezmut.proofs.device.zelezmut_read.Goals as goal

pub returns : goal.returns
returns c = search saying_value
