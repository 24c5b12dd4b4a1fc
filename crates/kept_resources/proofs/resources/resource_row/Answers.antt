use Rattle.kept_resources.specs.Resources.{reading_resource}
use Rattle.kept_resources.proofs.resources.resource_row.Goals as goal

pub returns : goal.returns
returns c = search reading_resource
