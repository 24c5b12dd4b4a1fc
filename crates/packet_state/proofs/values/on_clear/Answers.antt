-- `on_clear` meets its contract, a law for each end. Assumes nothing.
use Rattle.packet_state.specs.Values.{applying_values}
use Rattle.packet_state.proofs.values.on_clear.Goals as goal

pub returns-then-bad_clear : goal.returns-then-bad_clear
returns-then-bad_clear c = search applying_values

pub returns : goal.returns
returns c = search applying_values
