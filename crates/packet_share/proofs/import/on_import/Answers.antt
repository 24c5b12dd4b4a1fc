-- `on_import` meets its contract, a law for each end. Assumes nothing.
use Rattle.packet_share.specs.Import.{importing}
use Rattle.packet_share.proofs.import.on_import.Goals as goal

pub returns-then-is_taken : goal.returns-then-is_taken
returns-then-is_taken c = search importing

pub returns-in_default : goal.returns-in_default
returns-in_default c = search importing

pub returns-then-live-ge-MOST_ROWS : goal.returns-then-live-ge-MOST_ROWS
returns-then-live-ge-MOST_ROWS c = search importing

pub returns : goal.returns
returns c = search importing

pub resource_row-r-requires : goal.resource_row-r-requires
resource_row-r-requires c = search importing
