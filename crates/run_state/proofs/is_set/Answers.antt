-- `is_set` meets its contract. Assumes nothing.
use Rattle.run_state.specs.Reading.{reading_word}
use Rattle.run_state.proofs.is_set.Goals as goal

pub returns : goal.returns
returns c = search reading_word
