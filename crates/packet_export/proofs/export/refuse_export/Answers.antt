-- `refuse_export` meets its contract. Assumes nothing.
use Rattle.packet_export.specs.Export.{refusing_export}
use Rattle.packet_export.proofs.export.refuse_export.Goals as goal

pub returns : goal.returns
returns c = search refusing_export
