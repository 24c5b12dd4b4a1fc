-- `ending_at` meets its contract. Assumes nothing.
use Rattle.run_entries.specs.Ending.{ending}
use Rattle.run_entries.proofs.ending.ending_at.Goals as goal

pub returns-then-at-end : goal.returns-then-at-end
returns-then-at-end c = search ending

pub returns-else-at-end : goal.returns-else-at-end
returns-else-at-end c = search ending
