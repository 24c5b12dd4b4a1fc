-- `find_token` meets its contract: a token is its row's second word. Assumes nothing.
use Rattle.kept_tokens.specs.Tokens.{finding_token}
use Rattle.kept_tokens.proofs.finding.find_token.Goals as goal

pub returns : goal.returns
returns c = search finding_token
