-- `rebind` meets its contract: the rows are renamed, and so are the tokens. Assumes nothing.
use Rattle.kept_tokens.specs.Storing.{rebinding_token}
use Rattle.kept_tokens.proofs.storing.rebind.Goals as goal

pub returns : goal.returns
returns c = search rebinding_token
