-- `put_packet` meets its contract. Assumes nothing.
use Rattle.dump_next.specs.Next.{writing_packet}
use Rattle.dump_next.proofs.put_packet.Goals as goal

pub packet_part-part-requires : goal.packet_part-part-requires
packet_part-part-requires c = search writing_packet

pub put_line-requires : goal.put_line-requires
put_line-requires c = record { op_in_bounds = search writing_packet; part_in_bounds = search writing_packet }

pub returns : goal.returns
returns c = search writing_packet
