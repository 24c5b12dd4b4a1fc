-- `side_at` halves a side by one shift.
-- Assumes nothing.
use Rattle.texture_shapes.specs.Rows.{measuring}
use Rattle.texture_shapes.proofs.formats.side_at.Goals as goal

pub returns : goal.returns
returns c = search measuring
