-- `bad_bounds` meets its contract, a law for each end. Assumes nothing.
use Rattle.packet_state.specs.Values.{judging}
use Rattle.packet_state.proofs.values.bad_bounds.Goals as goal

pub returns-then-either_not_finite : goal.returns-then-either_not_finite
returns-then-either_not_finite c = search judging

pub returns-then-bad_area : goal.returns-then-bad_area
returns-then-bad_area c = search judging

pub returns : goal.returns
returns c = search judging
