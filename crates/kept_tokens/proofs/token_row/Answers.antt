-- `token_row` meets its contract. Assumes nothing.
use Rattle.kept_tokens.specs.Tokens.{reading_token}
use Rattle.kept_tokens.proofs.token_row.Goals as goal

pub returns : goal.returns
returns c = search reading_token
