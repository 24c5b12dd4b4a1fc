-- `rectangle` meets its contract, a law for each end. Assumes nothing.
use Rattle.packet_target.specs.Target.{measuring}
use Rattle.packet_target.proofs.rectangle.Goals as goal

pub returns : goal.returns
returns c = search measuring
