-- `read_shape` meets its contract. Assumes nothing.
use Rattle.saved_resources.specs.Judged.{reading_resource}
use Rattle.saved_resources.proofs.read_shape.Goals as goal

pub returns : goal.returns
returns c = search reading_resource
