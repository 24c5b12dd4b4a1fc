-- `good_pitch` meets its contract. Assumes nothing.
use Rattle.saved_shapes.specs.Shapes.{backing_rules}
use Rattle.saved_shapes.proofs.good_pitch.Goals as goal

pub returns-then-backing-eq0 : goal.returns-then-backing-eq0
returns-then-backing-eq0 c = search backing_rules

pub returns : goal.returns
returns c = search backing_rules
