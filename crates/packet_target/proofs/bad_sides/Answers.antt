-- `bad_sides` meets its contract, a law for each end. Assumes nothing.
use Rattle.packet_target.specs.Target.{measuring}
use Rattle.packet_target.proofs.bad_sides.Goals as goal

pub returns-then-is_negative : goal.returns-then-is_negative
returns-then-is_negative c = search measuring

pub returns : goal.returns
returns c = search measuring
