-- `behind` meets its contract. Assumes nothing.
use Rattle.diff_calls.specs.Calls.{stepping}
use Rattle.diff_calls.proofs.behind.Goals as goal

pub overflow_add-result : goal.overflow_add-result
overflow_add-result c = search stepping
