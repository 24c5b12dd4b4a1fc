-- `tight_row` gives the bytes of a row with no padding.
-- Assumes nothing.
use Rattle.texture_shapes.specs.Rows.{measuring}
use Rattle.texture_shapes.proofs.formats.tight_row.Goals as goal

pub blocks_of-requires : goal.blocks_of-requires
blocks_of-requires c = search measuring

pub overflow_mul-result : goal.overflow_mul-result
overflow_mul-result c = search measuring

pub returns : goal.returns
returns c = search measuring
