-- `destroy` meets its contract. Assumes nothing.
use Rattle.packet_apply.specs.Apply.{destroying}
use Rattle.packet_apply.proofs.apply.destroy.Goals as goal

pub returns-in-Some : goal.returns-in-Some
returns-in-Some c = search destroying

pub returns-in-None : goal.returns-in-None
returns-in-None c = search destroying
