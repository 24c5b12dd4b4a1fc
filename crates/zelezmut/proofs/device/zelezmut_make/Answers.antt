-- `zelezmut_make` meets its contract. Assumes nothing.
use Rattle.zelezmut.specs.Saying.{handing_on}
use Rattle.zelezmut.proofs.device.zelezmut_make.Goals as goal

pub returns : goal.returns
returns c = search handing_on
