-- `save` meets its contract, a law for each side. Assumes nothing.
use Rattle.saved_save.specs.Saving.{saving}
use Rattle.saved_save.proofs.save.Goals as goal

pub returns-then-words-eq0 : goal.returns-then-words-eq0
returns-then-words-eq0 c = search saving

pub returns : goal.returns
returns c = search saving
