-- `bad_depths` meets its contract, a law for each end. Assumes nothing.
use Rattle.packet_state.specs.Values.{deciding_depths}
use Rattle.packet_state.proofs.values.bad_depths.Goals as goal

pub returns-then-far-le-FLOAT_ONE : goal.returns-then-far-le-FLOAT_ONE
returns-then-far-le-FLOAT_ONE c = search deciding_depths

pub returns-then-either_not_finite : goal.returns-then-either_not_finite
returns-then-either_not_finite c = search deciding_depths

pub returns-then-below : goal.returns-then-below
returns-then-below c = search deciding_depths

pub returns-then-outside : goal.returns-then-outside
returns-then-outside c = search deciding_depths

pub returns : goal.returns
returns c = search deciding_depths
