-- `load_good` meets its contract. Assumes nothing.
use Rattle.saved_load.specs.Loading.{loading_good}
use Rattle.saved_load.proofs.load_good.Goals as goal

pub load_sections-requires : goal.load_sections-requires
load_sections-requires c = search loading_good

pub returns : goal.returns
returns c = search loading_good
