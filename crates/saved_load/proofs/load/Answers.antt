-- `load` meets its contract. Assumes nothing.
use Rattle.saved_load.specs.Loading.{loading}
use Rattle.saved_load.proofs.load.Goals as goal

pub load_good-requires : goal.load_good-requires
load_good-requires c = search loading

pub returns-in-Err : goal.returns-in-Err
returns-in-Err c = search loading

pub returns-in-Ok : goal.returns-in-Ok
returns-in-Ok c = search loading
