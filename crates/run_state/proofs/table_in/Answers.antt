-- `table_in` meets its contract. Assumes nothing.
use Rattle.run_state.specs.Reading.{reading}
use Rattle.run_state.proofs.table_in.Goals as goal

pub returns : goal.returns
returns c = search reading
