-- `bad_values` meets its contract, a law for each end. Assumes nothing.
use Rattle.packet_state.specs.Values.{judging}
use Rattle.packet_state.proofs.values.bad_values.Goals as goal

pub returns-then-either_not_finite : goal.returns-then-either_not_finite
returns-then-either_not_finite c = search judging

pub returns-then-either_not_finite-2 : goal.returns-then-either_not_finite-2
returns-then-either_not_finite-2 c = search judging

pub returns-then-bad_depth : goal.returns-then-bad_depth
returns-then-bad_depth c = search judging

pub returns : goal.returns
returns c = search judging
