-- `on_target` meets its contract, a law for each end. Assumes nothing.
use Rattle.packet_target.specs.Target.{targeting}
use Rattle.packet_target.proofs.on_target.Goals as goal

pub returns-in-None : goal.returns-in-None
returns-in-None c = search targeting

pub returns-in-Some : goal.returns-in-Some
returns-in-Some c = search targeting
