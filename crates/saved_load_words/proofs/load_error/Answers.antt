-- `load_error` meets its contract. Assumes nothing.
use Rattle.saved_load_words.specs.Words.{writing_words}
use Rattle.saved_load_words.proofs.load_error.Goals as goal

pub returns : goal.returns
returns c = search writing_words
