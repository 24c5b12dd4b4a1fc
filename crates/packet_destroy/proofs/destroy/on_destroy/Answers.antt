-- `on_destroy` meets its contract, a law for each end. Assumes nothing.
use Rattle.packet_destroy.specs.Destroy.{destroying}
use Rattle.packet_destroy.proofs.destroy.on_destroy.Goals as goal

pub returns-in_default : goal.returns-in_default
returns-in_default c = search destroying

pub returns-then-not-shareable : goal.returns-then-not-shareable
returns-then-not-shareable c = search destroying

pub returns : goal.returns
returns c = search destroying

pub resource_row-r-requires : goal.resource_row-r-requires
resource_row-r-requires c = search destroying

pub remove_resource-requires : goal.remove_resource-requires
remove_resource-requires c = search destroying

pub overflow_sub-left : goal.overflow_sub-left
overflow_sub-left c = search destroying
