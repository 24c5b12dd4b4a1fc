-- `held_tokens` meets its contract. Assumes nothing.
use Rattle.run_shared.specs.Shared.{finding_tokens}
use Rattle.run_shared.proofs.held_tokens.Goals as goal

pub returns : goal.returns
returns c = search finding_tokens
