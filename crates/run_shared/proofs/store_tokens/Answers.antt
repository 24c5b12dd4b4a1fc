-- `store_tokens` meets its contract. Assumes nothing.
use Rattle.run_shared.specs.Shared.{storing_tokens}
use Rattle.run_shared.proofs.store_tokens.Goals as goal

pub returns : goal.returns
returns c = search storing_tokens
