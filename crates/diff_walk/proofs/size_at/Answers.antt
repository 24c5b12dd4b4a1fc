-- `size_at` meets its contract. Assumes nothing.
use Rattle.diff_walk.specs.Walk.{sizing}
use Rattle.diff_walk.proofs.size_at.Goals as goal

pub returns-in-Err : goal.returns-in-Err
returns-in-Err c = search sizing

pub returns-in-Ok : goal.returns-in-Ok
returns-in-Ok c = search sizing
