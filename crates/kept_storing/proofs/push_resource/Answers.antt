use Rattle.kept_storing.specs.Storing.{pushing_resource}
use Rattle.kept_storing.proofs.push_resource.Goals as goal

pub returns : goal.returns
returns c = search pushing_resource
