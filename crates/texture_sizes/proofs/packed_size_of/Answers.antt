-- `packed_size_of` is the bytes of one layer, times the layers.
-- Assumes nothing.
use Rattle.texture_sizes.specs.Places.{packing}
use Rattle.texture_sizes.proofs.packed_size_of.Goals as goal

pub returns-then-not-good_backed : goal.returns-then-not-good_backed
returns-then-not-good_backed c = search packing

pub bytes_below-requires : goal.bytes_below-requires
bytes_below-requires c = search packing

pub overflow_mul-result : goal.overflow_mul-result
overflow_mul-result c = search packing

pub returns : goal.returns
returns c = search packing
