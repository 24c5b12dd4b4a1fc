-- `read_resource` meets its contract. Assumes nothing.
use Rattle.saved_resources.specs.Judged.{reading_resource}
use Rattle.saved_resources.proofs.read_resource.Goals as goal

pub returns : goal.returns
returns c = search reading_resource
