use Rattle.diff_walk.specs.Walk.{placing}
use Rattle.diff_walk.proofs.place_of.Goals as goal

pub returns-then-size-eq0 : goal.returns-then-size-eq0
returns-then-size-eq0 c = search placing

pub overflow_add-at : goal.overflow_add-at
overflow_add-at c = search placing

pub loop-preserved : goal.loop-preserved
loop-preserved c = search placing

pub returns : goal.returns
returns c = search placing
