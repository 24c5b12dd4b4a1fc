-- `zelezmut_difference_check` meets its contract. Assumes nothing.
use Rattle.zelezmut.specs.Difference.{saying_difference}
use Rattle.zelezmut.proofs.difference.zelezmut_difference_check.Goals as goal

pub returns : goal.returns
returns c = search saying_difference
