-- `rows_in` meets its contract. Assumes nothing.
use Rattle.run_state.specs.Reading.{reading_word}
use Rattle.run_state.proofs.rows_in.Goals as goal

pub returns-then-word-gt64 : goal.returns-then-word-gt64
returns-then-word-gt64 c = search reading_word

pub returns : goal.returns
returns c = search reading_word
