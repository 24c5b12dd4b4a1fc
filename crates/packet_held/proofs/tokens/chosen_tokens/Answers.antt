-- `chosen_tokens` meets its contract. Assumes nothing.
use Rattle.packet_held.specs.Tokens.{choosing}
use Rattle.packet_held.proofs.tokens.chosen_tokens.Goals as goal

pub returns-then-copied : goal.returns-then-copied
returns-then-copied c = search choosing

pub returns-else-copied : goal.returns-else-copied
returns-else-copied c = search choosing
