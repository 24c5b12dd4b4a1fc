-- `play` meets its contract. Assumes nothing.
use Rattle.run_turns.specs.Phases.{playing}
use Rattle.run_turns.proofs.play.Goals as goal

pub returns : goal.returns
returns c = search playing
