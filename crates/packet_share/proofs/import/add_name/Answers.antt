-- `add_name` meets its contract, a law for each end. Assumes nothing.
use Rattle.packet_share.specs.Import.{adding}
use Rattle.packet_share.proofs.import.add_name.Goals as goal

pub returns-then-handle-old : goal.returns-then-handle-old
returns-then-handle-old c = search adding

pub returns : goal.returns
returns c = search adding
