-- `good_shape` judges a shape, a test at a time.
-- Each return is a law of that test. Assumes nothing.
use Rattle.texture_shapes.specs.Good.{judging}
use Rattle.texture_shapes.proofs.good_shape.Goals as goal

pub returns-then-unit_of-eq0 : goal.returns-then-unit_of-eq0
returns-then-unit_of-eq0 c = search judging

pub returns-then-not-good_side_of : goal.returns-then-not-good_side_of
returns-then-not-good_side_of c = search judging

pub returns-then-not-good_side_of-2 : goal.returns-then-not-good_side_of-2
returns-then-not-good_side_of-2 c = search judging

pub returns-then-s-lt1 : goal.returns-then-s-lt1
returns-then-s-lt1 c = search judging

pub returns-then-not-chain_reaches : goal.returns-then-not-chain_reaches
returns-then-not-chain_reaches c = search judging

pub returns-then-s-lt1-2 : goal.returns-then-s-lt1-2
returns-then-s-lt1-2 c = search judging

pub returns : goal.returns
returns c = search judging
