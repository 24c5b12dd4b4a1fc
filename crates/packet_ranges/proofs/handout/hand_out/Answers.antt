-- `hand_out` meets its contract, a law for each end. Assumes nothing.
use Rattle.packet_ranges.specs.Handout.{handing}
use Rattle.packet_ranges.proofs.handout.hand_out.Goals as goal

pub returns-then-c-eq0 : goal.returns-then-c-eq0
returns-then-c-eq0 c = search handing

pub returns-then-made-ge-MOST_ROWS : goal.returns-then-made-ge-MOST_ROWS
returns-then-made-ge-MOST_ROWS c = search handing

pub returns : goal.returns
returns c = search handing
