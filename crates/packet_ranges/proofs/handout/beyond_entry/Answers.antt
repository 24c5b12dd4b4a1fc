-- `beyond_entry` meets its contract: no sum is made that could wrap. Assumes nothing.
use Rattle.packet_ranges.specs.Handout.{moving_range}
use Rattle.packet_ranges.proofs.handout.beyond_entry.Goals as goal

pub returns-then-size-bytes : goal.returns-then-size-bytes
returns-then-size-bytes c = search moving_range

pub returns : goal.returns
returns c = search moving_range
