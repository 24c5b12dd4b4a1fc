-- `rename` meets its contract: the rows are renamed, and so are the resources. Assumes nothing.
use Rattle.kept_names.specs.Naming.{renaming_resource}
use Rattle.kept_names.proofs.naming.rename.Goals as goal

pub returns : goal.returns
returns c = search renaming_resource
