-- `judge_token` meets its contract. Assumes nothing.
use Rattle.saved_tokens.specs.Tokens.{judging_token}
use Rattle.saved_tokens.proofs.judge_token.Goals as goal

pub returns : goal.returns
returns c = search judging_token
