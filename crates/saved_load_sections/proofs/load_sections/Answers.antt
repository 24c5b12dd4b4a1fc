-- `load_sections` meets its contract. Assumes nothing.
use Rattle.saved_load_sections.specs.Sections.{loading_sections}
use Rattle.saved_load_sections.proofs.load_sections.Goals as goal

pub returns : goal.returns
returns c = search loading_sections
