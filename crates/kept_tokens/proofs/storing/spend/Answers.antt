-- `spend` meets its contract. Assumes nothing.
use Rattle.kept_tokens.specs.Storing.{spending_token}
use Rattle.kept_tokens.proofs.storing.spend.Goals as goal

pub returns : goal.returns
returns c = search spending_token
