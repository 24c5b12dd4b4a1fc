-- `next_at` meets its contract. Assumes nothing.
use Rattle.diff_calls.specs.Calls.{at_cursor}
use Rattle.diff_calls.proofs.next_at.Goals as goal

pub returns : goal.returns
returns c = search at_cursor
