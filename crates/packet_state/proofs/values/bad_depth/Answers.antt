-- `bad_depth` meets its contract, a law for each end. Assumes nothing.
use Rattle.packet_state.specs.Values.{deciding_depths}
use Rattle.packet_state.proofs.values.bad_depth.Goals as goal

pub returns-then-depth-le-FLOAT_ONE : goal.returns-then-depth-le-FLOAT_ONE
returns-then-depth-le-FLOAT_ONE c = search deciding_depths

pub returns-then-not_finite : goal.returns-then-not_finite
returns-then-not_finite c = search deciding_depths

pub returns : goal.returns
returns c = search deciding_depths
