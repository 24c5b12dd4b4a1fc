-- `rest` meets its contract. Assumes nothing.
use Rattle.run_state.specs.Resting.{resting_words}
use Rattle.run_state.proofs.rest.Goals as goal

pub returns : goal.returns
returns c = search resting_words
