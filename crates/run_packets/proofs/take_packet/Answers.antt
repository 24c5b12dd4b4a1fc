-- `take_packet` meets its contract. Assumes nothing.
use Rattle.run_packets.specs.Playing.{taking_packet}
use Rattle.run_packets.proofs.take_packet.Goals as goal

pub returns-in-Plain : goal.returns-in-Plain
returns-in-Plain c = search taking_packet

pub returns-in-Unknown : goal.returns-in-Unknown
returns-in-Unknown c = search taking_packet

pub returns-in-Left : goal.returns-in-Left
returns-in-Left c = search taking_packet
