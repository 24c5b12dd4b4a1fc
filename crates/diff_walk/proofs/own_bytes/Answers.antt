-- `own_bytes` meets its contract. Assumes nothing.
use Rattle.diff_walk.specs.Own.{heading}
use Rattle.diff_walk.proofs.own_bytes.Goals as goal

pub slice_bounds-result-end-in-Ok : goal.slice_bounds-result-end-in-Ok
slice_bounds-result-end-in-Ok c = search heading

pub returns-in-Err : goal.returns-in-Err
returns-in-Err c = search heading

pub returns-in-Ok : goal.returns-in-Ok
returns-in-Ok c = search heading
