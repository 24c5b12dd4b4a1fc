-- `settle_answered` meets its contract. Assumes nothing.
use Rattle.run_answered.specs.Answered.{settling_answered}
use Rattle.run_answered.proofs.settle_answered.Goals as goal

pub returns-then-good : goal.returns-then-good
returns-then-good c = search settling_answered

pub returns : goal.returns
returns c = search settling_answered
