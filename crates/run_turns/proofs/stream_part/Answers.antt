-- `stream_part` meets its contract. Assumes nothing.
use Rattle.run_turns.specs.Phases.{parting}
use Rattle.run_turns.proofs.stream_part.Goals as goal

pub returns-then-from-end : goal.returns-then-from-end
returns-then-from-end c = search parting

pub returns-then-size-end : goal.returns-then-size-end
returns-then-size-end c = search parting

pub returns : goal.returns
returns c = search parting
