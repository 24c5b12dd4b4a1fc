-- `rename_word` meets its contract, a law for each end. Assumes nothing.
use Rattle.rows_renaming.specs.Renaming.{renaming_word}
use Rattle.rows_renaming.proofs.rename_word.Goals as goal

pub returns-then-low32-old : goal.returns-then-low32-old
returns-then-low32-old c = search renaming_word

pub returns-else-low32-old : goal.returns-else-low32-old
returns-else-low32-old c = search renaming_word
