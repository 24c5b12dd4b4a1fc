-- `start` meets its contract. Assumes nothing.
use Rattle.run_begin.specs.Beginning.{starting}
use Rattle.run_begin.proofs.start.Goals as goal

pub returns-then-table-eq0 : goal.returns-then-table-eq0
returns-then-table-eq0 c = search starting

pub returns-else-table-eq0 : goal.returns-else-table-eq0
returns-else-table-eq0 c = search starting
