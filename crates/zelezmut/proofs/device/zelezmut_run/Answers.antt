-- `zelezmut_run` meets its contract. Assumes nothing.
use Rattle.zelezmut.specs.Saying.{saying_run}
use Rattle.zelezmut.proofs.device.zelezmut_run.Goals as goal

pub returns : goal.returns
returns c = search saying_run
