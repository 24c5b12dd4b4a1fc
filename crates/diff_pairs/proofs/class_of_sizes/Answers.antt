-- `class_of_sizes` meets its contract. Assumes nothing.
use Rattle.diff_pairs.specs.Pairs.{classing}
use Rattle.diff_pairs.proofs.class_of_sizes.Goals as goal

pub returns-then-long-eq0 : goal.returns-then-long-eq0
returns-then-long-eq0 c = search classing

pub returns-then-size-eq0 : goal.returns-then-size-eq0
returns-then-size-eq0 c = search classing

pub returns-then-long-eq0-2 : goal.returns-then-long-eq0-2
returns-then-long-eq0-2 c = search classing

pub packet_part-requires : goal.packet_part-requires
packet_part-requires c = search classing

pub packet_part-requires-2 : goal.packet_part-requires-2
packet_part-requires-2 c = search classing

pub compare-requires : goal.compare-requires
compare-requires c = search classing
