-- `live_texture` meets its contract, a law for each end. Assumes nothing.
use Rattle.packet_target.specs.Target.{aiming}
use Rattle.packet_target.proofs.live_texture.Goals as goal

pub returns-then-handle-eq0 : goal.returns-then-handle-eq0
returns-then-handle-eq0 c = search aiming

pub returns-in_default : goal.returns-in_default
returns-in_default c = search aiming

pub returns-in-Buffer : goal.returns-in-Buffer
returns-in-Buffer c = search aiming

pub returns-in-Texture : goal.returns-in-Texture
returns-in-Texture c = search aiming

pub resource_row-requires : goal.resource_row-requires
resource_row-requires c = search aiming
