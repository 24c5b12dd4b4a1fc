-- `check_later` meets its contract. Assumes nothing.
use Rattle.saved_check.specs.Whole.{judging_later}
use Rattle.saved_check.proofs.check_later.Goals as goal

pub returns-in-One : goal.returns-in-One
returns-in-One c = search judging_later

pub returns-in-Err : goal.returns-in-Err
returns-in-Err c = search judging_later
