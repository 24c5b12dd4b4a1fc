-- `live_buffer` meets its contract, a law for each end. Assumes nothing.
use Rattle.packet_copy.specs.Copy.{seeking}
use Rattle.packet_copy.proofs.copy.live_buffer.Goals as goal

pub returns-in_default : goal.returns-in_default
returns-in_default c = search seeking

pub returns-in-Buffer : goal.returns-in-Buffer
returns-in-Buffer c = search seeking

pub returns-in-Texture : goal.returns-in-Texture
returns-in-Texture c = search seeking

pub resource_row-r-requires : goal.resource_row-r-requires
resource_row-r-requires c = search seeking
