-- `destroy` meets its contract. Assumes nothing.
use Rattle.packet_apply_shared.specs.Shared.{destroying}
use Rattle.packet_apply_shared.proofs.destroy.Goals as goal

pub returns : goal.returns
returns c = search destroying
