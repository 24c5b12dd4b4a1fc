-- `resolve` meets its contract, a law for each end. Assumes nothing.
use Rattle.packet_ranges.specs.Handout.{resolving}
use Rattle.packet_ranges.proofs.handout.resolve.Goals as goal

pub returns-in_default : goal.returns-in_default
returns-in_default c = search resolving

pub entry_row-e-requires : goal.entry_row-e-requires
entry_row-e-requires c = search resolving

pub returns-then-beyond_entry : goal.returns-then-beyond_entry
returns-then-beyond_entry c = search resolving

pub overflow_add-range : goal.overflow_add-range
overflow_add-range c = search resolving

pub overflow_add-range-2 : goal.overflow_add-range-2
overflow_add-range-2 c = search resolving

pub returns : goal.returns
returns c = search resolving
