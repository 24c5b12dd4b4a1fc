-- `good_backed` judges a shape and a pitch.
-- Assumes nothing.
use Rattle.texture_shapes.specs.Good.{backing}
use Rattle.texture_shapes.proofs.good_backed.Goals as goal

pub returns-then-not-good_shape : goal.returns-then-not-good_shape
returns-then-not-good_shape c = search backing

pub returns : goal.returns
returns c = search backing
