-- `destroy_unshared` meets its contract. Assumes nothing.
use Rattle.packet_destroy.specs.Destroy.{destroying_unshared}
use Rattle.packet_destroy.proofs.destroy.destroy_unshared.Goals as goal

pub returns-in_default : goal.returns-in_default
returns-in_default c = search destroying_unshared

pub returns-then-shareable : goal.returns-then-shareable
returns-then-shareable c = search destroying_unshared

pub returns : goal.returns
returns c = search destroying_unshared

pub resource_row-r-requires : goal.resource_row-r-requires
resource_row-r-requires c = search destroying_unshared

pub remove_resource-requires : goal.remove_resource-requires
remove_resource-requires c = search destroying_unshared

pub overflow_sub-result : goal.overflow_sub-result
overflow_sub-result c = search destroying_unshared
