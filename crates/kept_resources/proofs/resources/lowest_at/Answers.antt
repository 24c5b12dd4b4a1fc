-- `lowest_at` meets its contract. Assumes nothing.
use Rattle.kept_resources.specs.Resources.{reading_resource}
use Rattle.kept_resources.proofs.resources.lowest_at.Goals as goal

pub returns : goal.returns
returns c = search reading_resource
