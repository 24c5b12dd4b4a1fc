-- `bad_side` meets its contract, a law for each end. Assumes nothing.
use Rattle.packet_state.specs.Values.{deciding_sides}
use Rattle.packet_state.proofs.values.bad_side.Goals as goal

pub returns-then-side-eq-FLOAT_ZERO : goal.returns-then-side-eq-FLOAT_ZERO
returns-then-side-eq-FLOAT_ZERO c = search deciding_sides

pub returns : goal.returns
returns c = search deciding_sides
