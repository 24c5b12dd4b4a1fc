-- `on_scissor` meets its contract, a law for each end. Assumes nothing.
use Rattle.packet_target.specs.Target.{cutting}
use Rattle.packet_target.proofs.on_scissor.Goals as goal

pub returns-in-None : goal.returns-in-None
returns-in-None c = search cutting

pub returns-in-Some : goal.returns-in-Some
returns-in-Some c = search cutting
