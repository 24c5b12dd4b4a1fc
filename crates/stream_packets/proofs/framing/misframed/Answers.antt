-- `misframed` meets its contract. Assumes nothing.
use Rattle.stream_packets.specs.Framing.{judging_size}
use Rattle.stream_packets.proofs.framing.misframed.Goals as goal

pub returns-then-long-left : goal.returns-then-long-left
returns-then-long-left c = search judging_size

pub returns-then-long-lt-PACKET_HEADER_SIZE : goal.returns-then-long-lt-PACKET_HEADER_SIZE
returns-then-long-lt-PACKET_HEADER_SIZE c = search judging_size

pub returns : goal.returns
returns c = search judging_size
