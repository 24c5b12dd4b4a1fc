-- `zero` meets its contract: the words are those of the totals of nothing. Assumes nothing.
use Rattle.std.proofs.Common.{refl}
use Rattle.rules.specs.Month.{totals, sum, greatest}
use Rattle.month_totals.proofs.zero.Goals as goal

pub returns : goal.returns
unfolding totals sum greatest
returns c = record { words = refl }
