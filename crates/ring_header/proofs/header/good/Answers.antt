use Rattle.ring_header.specs.Header.{judging_header}
use Rattle.ring_header.proofs.header.good.Goals as goal

pub returns-then-h-ne-RING_MAGIC : goal.returns-then-h-ne-RING_MAGIC
returns-then-h-ne-RING_MAGIC c = search judging_header

pub returns-then-h-ne-GOOD_MAJOR : goal.returns-then-h-ne-GOOD_MAJOR
returns-then-h-ne-GOOD_MAJOR c = search judging_header

pub returns-then-not-good_count : goal.returns-then-not-good_count
returns-then-not-good_count c = search judging_header

pub returns-then-h-lt-DESCRIPTOR_SIZE : goal.returns-then-h-lt-DESCRIPTOR_SIZE
returns-then-h-lt-DESCRIPTOR_SIZE c = search judging_header

pub returns-then-u32_to_word-slot_at : goal.returns-then-u32_to_word-slot_at
returns-then-u32_to_word-slot_at c = search judging_header

pub returns-then-size-h : goal.returns-then-size-h
returns-then-size-h c = search judging_header

pub returns : goal.returns
returns c = search judging_header
