-- `bytes_of_mip` gives the bytes of one mip of a bounded shape.
-- Mip 0 has the pitch, the others a tight row. Assumes nothing.
use Rattle.texture_sizes.specs.Mips.{weighing}
use Rattle.texture_sizes.proofs.bytes_of_mip.Goals as goal

pub blocks_of-rows-requires : goal.blocks_of-rows-requires
blocks_of-rows-requires c = search weighing

pub overflow_mul-result : goal.overflow_mul-result
overflow_mul-result c = search weighing

pub returns-then-mip-eq0 : goal.returns-then-mip-eq0
returns-then-mip-eq0 c = search weighing

pub overflow_mul-result-else-mip-eq0 : goal.overflow_mul-result-else-mip-eq0
overflow_mul-result-else-mip-eq0 c = search weighing

pub returns-else-mip-eq0 : goal.returns-else-mip-eq0
returns-else-mip-eq0 c = search weighing
