-- `unit_of` gives the bytes of a pixel or block.
-- Each arm of its `match` is a law of formats. Assumes nothing.
use Rattle.texture_shapes.specs.Formats.{units}
use Rattle.texture_shapes.proofs.formats.unit_of.Goals as goal

pub returns-in-64 : goal.returns-in-64
returns-in-64 c = search units

pub returns-in-1 : goal.returns-in-1
returns-in-1 c = search units

pub returns-in-65 : goal.returns-in-65
returns-in-65 c = search units

pub returns-in_default : goal.returns-in_default
returns-in_default c = search units

pub returns-in_default-2 : goal.returns-in_default-2
returns-in_default-2 c = search units

pub returns-in_default-3 : goal.returns-in_default-3
returns-in_default-3 c = search units
