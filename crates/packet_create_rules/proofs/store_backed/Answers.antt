-- `store_backed` meets its contract: a law for each return. Assumes nothing.
use Rattle.packet_create_rules.specs.Backing.{storing}
use Rattle.packet_create_rules.proofs.store_backed.Goals as goal

pub returns-then-live-ge-MOST_ROWS : goal.returns-then-live-ge-MOST_ROWS
returns-then-live-ge-MOST_ROWS c = search storing

pub returns-then-made-ge-MOST_ROWS : goal.returns-then-made-ge-MOST_ROWS
returns-then-made-ge-MOST_ROWS c = search storing

pub returns : goal.returns
returns c = search storing
