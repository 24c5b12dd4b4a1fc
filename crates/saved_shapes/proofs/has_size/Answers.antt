-- `has_size` meets its contract. Assumes nothing.
use Rattle.saved_shapes.specs.Shapes.{sizing}
use Rattle.saved_shapes.proofs.has_size.Goals as goal

pub returns-then-low-ne0 : goal.returns-then-low-ne0
returns-then-low-ne0 c = search sizing

pub returns : goal.returns
returns c = search sizing
