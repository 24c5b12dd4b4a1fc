-- `save_two` meets its contract, by `two-ordered`. Assumes nothing.
use Rattle.saved_save.specs.Saving.{saving_two}
use Rattle.saved_save.proofs.save_two.Goals as goal

pub write_two-requires : goal.write_two-requires
write_two-requires c = (search saving_two, search saving_two)

pub returns : goal.returns
returns c = search saving_two
