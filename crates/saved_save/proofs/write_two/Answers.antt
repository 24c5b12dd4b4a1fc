-- `write_two` meets its contract, a law for each end. Assumes nothing.
use Rattle.saved_save.specs.Saving.{writing_two}
use Rattle.saved_save.proofs.write_two.Goals as goal

pub returns-then-buffer-length : goal.returns-then-buffer-length
returns-then-buffer-length c = search writing_two

pub put_back-requires : goal.put_back-requires
put_back-requires c = (search writing_two, search writing_two, search writing_two)

pub returns : goal.returns
returns c = search writing_two
