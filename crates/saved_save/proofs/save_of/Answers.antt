-- `save_of` meets its contract, a law for each end. Assumes nothing.
use Rattle.saved_save.specs.Saving.{saving_of}
use Rattle.saved_save.proofs.save_of.Goals as goal

pub returns-then-words-ne-NOTHING : goal.returns-then-words-ne-NOTHING
returns-then-words-ne-NOTHING c = search saving_of

pub returns-then-is_beyond : goal.returns-then-is_beyond
returns-then-is_beyond c = search saving_of

pub returns-else-is_beyond : goal.returns-else-is_beyond
returns-else-is_beyond c = search saving_of

pub returns-in-Two : goal.returns-in-Two
returns-in-Two c = search saving_of
