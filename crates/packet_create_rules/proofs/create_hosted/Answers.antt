-- `create_hosted` meets its contract, whatever records there are. Assumes nothing.
use Rattle.packet_create_rules.specs.Backing.{hosting}
use Rattle.packet_create_rules.proofs.create_hosted.Goals as goal

pub returns-then-live-ge-MOST_ROWS : goal.returns-then-live-ge-MOST_ROWS
returns-then-live-ge-MOST_ROWS c = search hosting

pub returns : goal.returns
returns c = search hosting
