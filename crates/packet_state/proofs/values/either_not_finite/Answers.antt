-- `either_not_finite` meets its contract, a law for each end. Assumes nothing.
use Rattle.packet_state.specs.Values.{deciding}
use Rattle.packet_state.proofs.values.either_not_finite.Goals as goal

pub returns-then-not_finite : goal.returns-then-not_finite
returns-then-not_finite c = search deciding

pub returns : goal.returns
returns c = search deciding
