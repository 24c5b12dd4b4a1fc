-- `has_token` meets its contract. Assumes nothing.
use Rattle.packet_held.specs.Tokens.{having}
use Rattle.packet_held.proofs.tokens.has_token.Goals as goal

pub returns : goal.returns
returns c = search having
