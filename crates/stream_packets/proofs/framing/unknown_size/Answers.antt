-- `unknown_size` meets its contract. Assumes nothing.
use Rattle.stream_packets.specs.Framing.{passing}
use Rattle.stream_packets.proofs.framing.unknown_size.Goals as goal

pub returns-then-may_be_known : goal.returns-then-may_be_known
returns-then-may_be_known c = search passing

pub returns-then-long-room : goal.returns-then-long-room
returns-then-long-room c = search passing

pub returns-then-long-lt-PACKET_HEADER_SIZE : goal.returns-then-long-lt-PACKET_HEADER_SIZE
returns-then-long-lt-PACKET_HEADER_SIZE c = search passing

pub returns-then-size-ne0 : goal.returns-then-size-ne0
returns-then-size-ne0 c = search passing

pub returns : goal.returns
returns c = search passing
