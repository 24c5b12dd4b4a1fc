-- `save_one` meets its contract, a law for each end. Assumes nothing.
use Rattle.saved_save.specs.Saving.{saving_one}
use Rattle.saved_save.proofs.save_one.Goals as goal

pub keep_rows-kept-requires : goal.keep_rows-kept-requires
keep_rows-kept-requires c = search saving_one

pub returns-then-buffer-length : goal.returns-then-buffer-length
returns-then-buffer-length c = search saving_one

pub returns : goal.returns
returns c = search saving_one
