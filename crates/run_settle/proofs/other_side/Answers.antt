-- `other_side` meets its contract, a law for each end. Assumes nothing.
use Rattle.run_settle.specs.Settling.{turning}
use Rattle.run_settle.proofs.other_side.Goals as goal

pub returns-then-side-eq0 : goal.returns-then-side-eq0
returns-then-side-eq0 c = search turning

pub returns-else-side-eq0 : goal.returns-else-side-eq0
returns-else-side-eq0 c = search turning
