-- `entries_turn` meets its contract. Assumes nothing.
use Rattle.run_turns.specs.Turns.{turning_entries}
use Rattle.run_turns.proofs.entries_turn.Goals as goal

pub returns : goal.returns
returns c = search turning_entries
