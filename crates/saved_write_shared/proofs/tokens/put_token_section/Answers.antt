-- `put_token_section` meets its contract, by `section-written`. Assumes nothing.
use Rattle.saved_write_shared.specs.Shared.{writing_section}
use Rattle.saved_write_shared.proofs.tokens.put_token_section.Goals as goal

pub returns : goal.returns
returns c = search writing_section
