use Rattle.kept_storing.specs.Storing.{moving_resource}
use Rattle.kept_storing.proofs.remove_resource.Goals as goal

pub returns : goal.returns
returns c = search moving_resource
