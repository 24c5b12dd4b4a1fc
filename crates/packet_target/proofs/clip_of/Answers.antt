-- `clip_of` meets its contract, a law for each end. Assumes nothing.
use Rattle.packet_target.specs.Target.{measuring}
use Rattle.packet_target.proofs.clip_of.Goals as goal

pub returns-then-width-eq0 : goal.returns-then-width-eq0
returns-then-width-eq0 c = search measuring

pub returns-then-height-eq0 : goal.returns-then-height-eq0
returns-then-height-eq0 c = search measuring

pub returns : goal.returns
returns c = search measuring
