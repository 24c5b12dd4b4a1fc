-- `zelezmut_difference_parts` meets its contract. Assumes nothing.
use Rattle.zelezmut.specs.Difference.{saying_difference}
use Rattle.zelezmut.proofs.difference.zelezmut_difference_parts.Goals as goal

pub returns : goal.returns
returns c = search saying_difference
