-- `on_copy` meets its contract, a law for each end. Assumes nothing.
use Rattle.packet_copy.specs.Copy.{copying}
use Rattle.packet_copy.proofs.copy.on_copy.Goals as goal

pub returns-in-None : goal.returns-in-None
returns-in-None c = search copying

pub returns-in-None-live_buffer : goal.returns-in-None-live_buffer
returns-in-None-live_buffer c = search copying

pub returns-in-Some-live_buffer : goal.returns-in-Some-live_buffer
returns-in-Some-live_buffer c = search copying
