-- `bad_viewport` meets its contract, a law for each end. Assumes nothing.
use Rattle.packet_state.specs.Values.{reading_floats}
use Rattle.packet_state.proofs.values.bad_viewport.Goals as goal

pub returns : goal.returns
returns c = search reading_floats
