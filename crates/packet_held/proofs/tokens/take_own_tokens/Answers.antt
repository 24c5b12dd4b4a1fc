-- `take_own_tokens` meets its contract. Assumes nothing.
use Rattle.packet_held.specs.Tokens.{owning_tokens}
use Rattle.packet_held.proofs.tokens.take_own_tokens.Goals as goal

pub returns-then-not-x : goal.returns-then-not-x
returns-then-not-x c = search owning_tokens

pub returns-else-not-x : goal.returns-else-not-x
returns-else-not-x c = search owning_tokens
