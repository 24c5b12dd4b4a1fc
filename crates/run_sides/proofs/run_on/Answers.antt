-- `run_on` meets its contract. Assumes nothing.
use Rattle.run_sides.specs.Sides.{choosing}
use Rattle.run_sides.proofs.run_on.Goals as goal

pub returns-then-allowance-eq0 : goal.returns-then-allowance-eq0
returns-then-allowance-eq0 c = search choosing

pub returns-then-words-eq0 : goal.returns-then-words-eq0
returns-then-words-eq0 c = search choosing

pub returns : goal.returns
returns c = search choosing
