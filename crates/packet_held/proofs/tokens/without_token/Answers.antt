-- `without_token` meets its contract. Assumes nothing.
use Rattle.packet_held.specs.Tokens.{spending}
use Rattle.packet_held.proofs.tokens.without_token.Goals as goal

pub returns : goal.returns
returns c = search spending
