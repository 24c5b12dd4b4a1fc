-- `tokens_in` meets its contract. Assumes nothing.
use Rattle.run_state.specs.Reading.{reading_word}
use Rattle.run_state.proofs.tokens_in.Goals as goal

pub returns-then-word-gt256 : goal.returns-then-word-gt256
returns-then-word-gt256 c = search reading_word

pub returns : goal.returns
returns c = search reading_word
