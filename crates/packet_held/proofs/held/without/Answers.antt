-- `without` meets its contract. Assumes nothing.
use Rattle.packet_held.specs.Held.{ending_target}
use Rattle.packet_held.proofs.held.without.Goals as goal

pub returns-then-handle-target : goal.returns-then-handle-target
returns-then-handle-target c = search ending_target

pub returns-else-handle-target : goal.returns-else-handle-target
returns-else-handle-target c = search ending_target
