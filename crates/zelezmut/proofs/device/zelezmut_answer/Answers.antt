-- `zelezmut_answer` meets its contract. Assumes nothing.
use Rattle.zelezmut.specs.Saying.{saying_run}
use Rattle.zelezmut.proofs.device.zelezmut_answer.Goals as goal

pub returns : goal.returns
returns c = search saying_run
