-- `rename_left` meets its contract, a law for each end. Assumes nothing.
use Rattle.kept_names.specs.Naming.{renaming_left}
use Rattle.kept_names.proofs.naming.rename_left.Goals as goal

pub returns-else-new-low : goal.returns-else-new-low
returns-else-new-low c = search renaming_left
