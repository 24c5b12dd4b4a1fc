-- `clip_to` meets its contract, a law for each end. Assumes nothing.
use Rattle.packet_target.specs.Target.{clipping}
use Rattle.packet_target.proofs.clip_to.Goals as goal

pub returns-then-bad_sides : goal.returns-then-bad_sides
returns-then-bad_sides c = search clipping

pub returns-then-made-ge-MOST_ROWS : goal.returns-then-made-ge-MOST_ROWS
returns-then-made-ge-MOST_ROWS c = search clipping

pub returns : goal.returns
returns c = search clipping
