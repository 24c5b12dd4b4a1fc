use Rattle.diff_walk.specs.Walk.{faulting}
use Rattle.diff_walk.proofs.packets_fault.Goals as goal

pub returns-then-size-eq0 : goal.returns-then-size-eq0
returns-then-size-eq0 c = search faulting

pub overflow_add-at : goal.overflow_add-at
overflow_add-at c = search faulting

pub loop-at-preserved : goal.loop-at-preserved
loop-at-preserved c = search faulting

pub returns : goal.returns
returns c = search faulting
