-- `fault_ring` meets its contract. Assumes nothing.
use Rattle.run_open.specs.Opening.{faulting}
use Rattle.run_open.proofs.fault_ring.Goals as goal

pub returns : goal.returns
returns c = search faulting
