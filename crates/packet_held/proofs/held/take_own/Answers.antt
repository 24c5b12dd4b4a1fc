use Rattle.packet_held.specs.Held.{owning}
use Rattle.packet_held.proofs.held.take_own.Goals as goal

pub returns-then-not-copied : goal.returns-then-not-copied
returns-then-not-copied c = search owning

pub returns-else-not-copied : goal.returns-else-not-copied
returns-else-not-copied c = search owning
