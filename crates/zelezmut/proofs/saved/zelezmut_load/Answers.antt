-- `zelezmut_load` meets its contract. Assumes nothing.
use Rattle.zelezmut.specs.Saying.{saying_saved}
use Rattle.zelezmut.proofs.saved.zelezmut_load.Goals as goal

pub returns-in-Ok : goal.returns-in-Ok
returns-in-Ok c = search saying_saved

pub returns-in-Err : goal.returns-in-Err
returns-in-Err c = search saying_saved
