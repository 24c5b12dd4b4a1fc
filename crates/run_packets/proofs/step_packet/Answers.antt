-- `step_packet` meets its contract. Assumes nothing.
use Rattle.run_packets.specs.Playing.{stepping_packet}
use Rattle.run_packets.proofs.step_packet.Goals as goal

pub overflow_add-next : goal.overflow_add-next
overflow_add-next c = search stepping_packet

pub returns-in-Err : goal.returns-in-Err
returns-in-Err c = search stepping_packet

pub returns-in-Ok : goal.returns-in-Ok
returns-in-Ok c = search stepping_packet
