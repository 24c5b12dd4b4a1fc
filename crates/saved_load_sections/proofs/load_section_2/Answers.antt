-- `load_section_2` meets its contract. Assumes nothing.
use Rattle.saved_load_sections.specs.Sections.{loading_resources}
use Rattle.saved_load_sections.proofs.load_section_2.Goals as goal

pub load_resources-requires : goal.load_resources-requires
load_resources-requires c = search loading_resources

pub returns : goal.returns
returns c = search loading_resources
