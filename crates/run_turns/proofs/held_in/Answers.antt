-- `held_in` meets its contract. Assumes nothing.
use Rattle.run_turns.specs.Turns.{finding_held}
use Rattle.run_turns.proofs.held_in.Goals as goal

pub returns : goal.returns
returns c = search finding_held
