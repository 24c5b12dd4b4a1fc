-- `packet_part` meets its contract, by `part-is`. Assumes nothing.
use Rattle.stream_packets.specs.Framing.{packet_reading}
use Rattle.stream_packets.proofs.framing.packet_part.Goals as goal

pub returns : goal.returns
returns c = search packet_reading
