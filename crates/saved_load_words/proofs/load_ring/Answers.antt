-- `load_ring` meets its contract. Assumes nothing.
use Rattle.saved_load_words.specs.Words.{writing_words}
use Rattle.saved_load_words.proofs.load_ring.Goals as goal

pub returns : goal.returns
returns c = search writing_words
