-- `good_offset` meets its contract. Assumes nothing.
use Rattle.saved_shapes.specs.Shapes.{backing_rules}
use Rattle.saved_shapes.proofs.good_offset.Goals as goal

pub returns-then-backing-ne0 : goal.returns-then-backing-ne0
returns-then-backing-ne0 c = search backing_rules

pub returns : goal.returns
returns c = search backing_rules
