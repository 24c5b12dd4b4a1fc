-- `lower_name` meets its contract, a law for each end. Assumes nothing.
use Rattle.kept_names.specs.Naming.{lower_naming}
use Rattle.kept_names.proofs.naming.lower_name.Goals as goal

pub returns-then-low32-low : goal.returns-then-low32-low
returns-then-low32-low c = search lower_naming

pub returns-then-handle-best : goal.returns-then-handle-best
returns-then-handle-best c = search lower_naming

pub returns-else-handle-best : goal.returns-else-handle-best
returns-else-handle-best c = search lower_naming
