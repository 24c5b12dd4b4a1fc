-- `blocks_of` counts the blocks of a side.
-- Each arm of its `match` is a law of formats. Assumes nothing.
use Rattle.texture_shapes.specs.Formats.{blocking}
use Rattle.texture_shapes.proofs.formats.blocks_of.Goals as goal

pub returns-in-64 : goal.returns-in-64
returns-in-64 c = search blocking

pub returns-in_default : goal.returns-in_default
returns-in_default c = search blocking

pub returns-in_default-2 : goal.returns-in_default-2
returns-in_default-2 c = search blocking
