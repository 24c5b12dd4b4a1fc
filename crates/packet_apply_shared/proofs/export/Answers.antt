-- `export` meets its contract. Assumes nothing.
use Rattle.packet_apply_shared.specs.Shared.{exporting}
use Rattle.packet_apply_shared.proofs.export.Goals as goal

pub returns : goal.returns
returns c = search exporting
