-- `unruled` meets its contract. Assumes nothing.
use Rattle.run_after_phase.specs.Landing.{faulting}
use Rattle.run_after_phase.proofs.unruled.Goals as goal

pub returns : goal.returns
returns c = search faulting
