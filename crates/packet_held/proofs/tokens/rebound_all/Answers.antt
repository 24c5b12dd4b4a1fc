-- `rebound_all` meets its contract. Assumes nothing.
use Rattle.packet_held.specs.Tokens.{rebinding}
use Rattle.packet_held.proofs.tokens.rebound_all.Goals as goal

pub returns-then-not-has_token : goal.returns-then-not-has_token
returns-then-not-has_token c = search rebinding

pub returns : goal.returns
returns c = search rebinding
