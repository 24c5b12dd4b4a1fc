-- `bad_area` meets its contract, a law for each end. Assumes nothing.
use Rattle.packet_state.specs.Values.{deciding}
use Rattle.packet_state.proofs.values.bad_area.Goals as goal

pub returns-then-bad_side : goal.returns-then-bad_side
returns-then-bad_side c = search deciding

pub returns : goal.returns
returns c = search deciding
