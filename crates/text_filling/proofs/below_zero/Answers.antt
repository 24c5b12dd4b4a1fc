-- `below_zero` meets its contract. Assumes nothing.
use Rattle.std.proofs.Common.{arith}
use Rattle.text_filling.specs.Filling.{less_than_zero}
use Rattle.text_filling.proofs.below_zero.Goals as goal

pub returns : goal.returns
unfolding less_than_zero
returns c = omega (arith, c.saturating_sub.ensures)
