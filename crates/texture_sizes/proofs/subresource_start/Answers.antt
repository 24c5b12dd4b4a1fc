-- `subresource_start` meets its contract. Assumes nothing.
use Rattle.texture_sizes.proofs.Places.{starting}
use Rattle.texture_sizes.proofs.subresource_start.Goals as goal

pub overflow_mul-s : goal.overflow_mul-s
overflow_mul-s c = search starting

pub returns-then-not-good_backed : goal.returns-then-not-good_backed
returns-then-not-good_backed c = search starting

pub bytes_below-requires : goal.bytes_below-requires
bytes_below-requires c = search starting

pub overflow_mul-layers_before : goal.overflow_mul-layers_before
overflow_mul-layers_before c = search starting

pub bytes_below-requires-2 : goal.bytes_below-requires-2
bytes_below-requires-2 c = search starting

pub overflow_add-result : goal.overflow_add-result
overflow_add-result c = search starting

pub returns : goal.returns
returns c = search starting
