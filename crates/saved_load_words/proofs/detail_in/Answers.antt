-- `detail_in` meets its contract. Assumes nothing.
use Rattle.saved_load_words.specs.Words.{writing_words}
use Rattle.saved_load_words.proofs.detail_in.Goals as goal

pub returns-in-Two : goal.returns-in-Two
returns-in-Two c = search writing_words
