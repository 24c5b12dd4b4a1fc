-- `load_words` meets its contract. Assumes nothing.
use Rattle.saved_load_words.specs.Words.{loading_words}
use Rattle.saved_load_words.proofs.load_words.Goals as goal

pub returns : goal.returns
returns c = search loading_words
