-- `save_with` meets its contract, a law for each side. Assumes nothing.
use Rattle.saved_save.specs.Saving.{saving_with}
use Rattle.saved_save.proofs.save_with.Goals as goal

pub returns-then-words-eq0 : goal.returns-then-words-eq0
returns-then-words-eq0 c = search saving_with

pub returns : goal.returns
returns c = search saving_with
