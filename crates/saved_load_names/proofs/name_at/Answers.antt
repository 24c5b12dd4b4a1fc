-- `name_at` meets its contract. Assumes nothing.
use Rattle.saved_load_names.specs.Loading.{saying}
use Rattle.saved_load_names.proofs.name_at.Goals as goal

pub unwrap-i-requires : goal.unwrap-i-requires
unwrap-i-requires c = search saying

pub resource_row-r-requires : goal.resource_row-r-requires
resource_row-r-requires c = search saying

pub returns : goal.returns
returns c = search saying
