-- `load_belongings` meets its contract. Assumes nothing.
use Rattle.saved_load_sections.specs.Sections.{loading_belongings}
use Rattle.saved_load_sections.proofs.load_belongings.Goals as goal

pub load_shared-requires : goal.load_shared-requires
load_shared-requires c = search loading_belongings

pub returns-in-One : goal.returns-in-One
returns-in-One c = search loading_belongings

pub returns-in-Two : goal.returns-in-Two
returns-in-Two c = search loading_belongings
