-- `create_backed` meets its contract: a law for each return. Assumes nothing.
use Rattle.packet_create_rules.specs.Backing.{backing}
use Rattle.packet_create_rules.proofs.create_backed.Goals as goal

pub returns-in_default : goal.returns-in_default
returns-in_default c = search backing

pub returns-then-beyond : goal.returns-then-beyond
returns-then-beyond c = search backing

pub overflow_add-c : goal.overflow_add-c
overflow_add-c c = search backing

pub returns : goal.returns
returns c = search backing

pub entry_row-e-requires : goal.entry_row-e-requires
entry_row-e-requires c = search backing
