-- `fault_of` meets its contract. Assumes nothing.
use Rattle.diff_walk.specs.Own.{heading}
use Rattle.diff_walk.proofs.fault_of.Goals as goal

pub slice_bounds-packets_fault-end : goal.slice_bounds-packets_fault-end
slice_bounds-packets_fault-end c = search heading

pub returns-in-Err : goal.returns-in-Err
returns-in-Err c = search heading

pub returns-in-Ok : goal.returns-in-Ok
returns-in-Ok c = search heading
