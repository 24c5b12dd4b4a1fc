-- `push_token` meets its contract. Assumes nothing.
use Rattle.kept_tokens.specs.Storing.{pushing_token}
use Rattle.kept_tokens.proofs.storing.push_token.Goals as goal

pub returns : goal.returns
returns c = search pushing_token
