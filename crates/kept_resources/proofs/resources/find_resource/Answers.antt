use Rattle.kept_resources.specs.Resources.{finding_resource}
use Rattle.kept_resources.proofs.resources.find_resource.Goals as goal

pub returns : goal.returns
returns c = search finding_resource
