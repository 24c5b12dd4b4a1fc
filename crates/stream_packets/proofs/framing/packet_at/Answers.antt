-- `packet_at` meets its contract. Assumes nothing.
use Rattle.stream_packets.specs.Framing.{packet_reading}
use Rattle.stream_packets.proofs.framing.packet_at.Goals as goal

pub returns-then-end-lt-PACKET_HEADER_SIZE : goal.returns-then-end-lt-PACKET_HEADER_SIZE
returns-then-end-lt-PACKET_HEADER_SIZE c = search packet_reading

pub returns-then-at-end : goal.returns-then-at-end
returns-then-at-end c = search packet_reading

pub returns-then-misframed : goal.returns-then-misframed
returns-then-misframed c = search packet_reading

pub packet_part-requires : goal.packet_part-requires
packet_part-requires c = search packet_reading

pub returns-in-None : goal.returns-in-None
returns-in-None c = search packet_reading

pub returns-in-Some : goal.returns-in-Some
returns-in-Some c = search packet_reading
