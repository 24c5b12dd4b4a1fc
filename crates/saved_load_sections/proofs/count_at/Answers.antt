-- `count_at` meets its contract. Assumes nothing.
use Rattle.saved_load_sections.specs.Sections.{counting}
use Rattle.saved_load_sections.proofs.count_at.Goals as goal

pub returns : goal.returns
returns c = search counting
