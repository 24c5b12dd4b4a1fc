-- `copy_tokens` meets its contract. Assumes nothing.
use Rattle.kept_tokens.specs.Storing.{copying_tokens}
use Rattle.kept_tokens.proofs.storing.copy_tokens.Goals as goal

pub returns : goal.returns
returns c = search copying_tokens
