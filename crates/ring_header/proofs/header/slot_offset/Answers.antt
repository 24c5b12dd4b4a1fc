-- `slot_offset` meets its contract, by `slot_is`. Assumes nothing.
use Rattle.ring_header.specs.Header.{placing_slots}
use Rattle.ring_header.proofs.header.slot_offset.Goals as goal

pub overflow_sub-h : goal.overflow_sub-h
overflow_sub-h c = search placing_slots

pub returns : goal.returns
returns c = search placing_slots
