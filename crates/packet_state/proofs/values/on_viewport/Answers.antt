-- `on_viewport` meets its contract, a law for each end. Assumes nothing.
use Rattle.packet_state.specs.Values.{applying_values}
use Rattle.packet_state.proofs.values.on_viewport.Goals as goal

pub returns-then-bad_viewport : goal.returns-then-bad_viewport
returns-then-bad_viewport c = search applying_values

pub returns : goal.returns
returns c = search applying_values
