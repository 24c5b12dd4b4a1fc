-- `next_in` meets its contract. Assumes nothing.
use Rattle.diff_pairs.specs.Pairs.{nexting}
use Rattle.diff_pairs.proofs.next_in.Goals as goal

pub returns-then-size-eq0 : goal.returns-then-size-eq0
returns-then-size-eq0 c = search nexting

pub returns-then-long-eq0 : goal.returns-then-long-eq0
returns-then-long-eq0 c = search nexting

pub packet_part-requires : goal.packet_part-requires
packet_part-requires c = search nexting

pub packet_part-requires-2 : goal.packet_part-requires-2
packet_part-requires-2 c = search nexting

pub next_of_parts-requires : goal.next_of_parts-requires
next_of_parts-requires c = search nexting
