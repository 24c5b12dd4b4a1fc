-- `load_shared` meets its contract. Assumes nothing.
use Rattle.saved_load_sections.specs.Sections.{loading_shared}
use Rattle.saved_load_sections.proofs.load_shared.Goals as goal

pub load_names-requires : goal.load_names-requires
load_names-requires c = search loading_shared

pub load_tokens-requires : goal.load_tokens-requires
load_tokens-requires c = search loading_shared

pub returns : goal.returns
returns c = search loading_shared
