-- `resource_at` meets its contract. Assumes nothing.
use Rattle.saved_load_resources.specs.Loading.{placing}
use Rattle.saved_load_resources.proofs.resource_at.Goals as goal

pub returns : goal.returns
returns c = search placing
