-- `is_taken` meets its contract, a law for each end. Assumes nothing.
use Rattle.packet_share.specs.Import.{taking}
use Rattle.packet_share.proofs.import.is_taken.Goals as goal

pub returns-then-handle-eq0 : goal.returns-then-handle-eq0
returns-then-handle-eq0 c = search taking

pub returns : goal.returns
returns c = search taking
