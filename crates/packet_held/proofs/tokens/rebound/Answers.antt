-- `rebound` meets its contract. Assumes nothing.
use Rattle.packet_held.specs.Tokens.{rebinding}
use Rattle.packet_held.proofs.tokens.rebound.Goals as goal

pub returns-then-old-new : goal.returns-then-old-new
returns-then-old-new c = search rebinding

pub returns : goal.returns
returns c = search rebinding
