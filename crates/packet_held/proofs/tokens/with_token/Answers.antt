-- `with_token` meets its contract. Assumes nothing.
use Rattle.packet_held.specs.Tokens.{adding}
use Rattle.packet_held.proofs.tokens.with_token.Goals as goal

pub returns-then-not-new : goal.returns-then-not-new
returns-then-not-new c = search adding

pub push_token-requires : goal.push_token-requires
push_token-requires c = search adding

pub returns : goal.returns
returns c = search adding
