use Rattle.kept_resources.specs.Resources.{reading_resource}
use Rattle.kept_resources.proofs.resources.kind_at.Goals as goal

pub returns-then-resources-b-eq-BUFFER : goal.returns-then-resources-b-eq-BUFFER
returns-then-resources-b-eq-BUFFER c = search reading_resource

pub returns : goal.returns
returns c = search reading_resource
