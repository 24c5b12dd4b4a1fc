-- `check_names` meets its contract. Assumes nothing.
use Rattle.saved_names.specs.Names.{judging_section_3}
use Rattle.saved_names.proofs.check_names.Goals as goal

pub returns-in-Err : goal.returns-in-Err
returns-in-Err c = search judging_section_3

pub returns-in-Ok : goal.returns-in-Ok
returns-in-Ok c = search judging_section_3
