use Rattle.month_totals.specs.Merging.{adding}
use Rattle.month_totals.proofs.add.Goals as goal

pub loop-i-init : goal.loop-i-init
loop-i-init c = search adding

pub overflow_add-a : goal.overflow_add-a
overflow_add-a c = search adding

pub loop-i-preserved : goal.loop-i-preserved
loop-i-preserved c = search adding

pub returns : goal.returns
returns c = search adding
