-- `on_export` meets its contract, a law for each end. Assumes nothing.
use Rattle.packet_export.specs.Export.{exporting}
use Rattle.packet_export.proofs.export.on_export.Goals as goal

pub returns-in_default : goal.returns-in_default
returns-in_default c = search exporting

pub returns-then-not-shareable : goal.returns-then-not-shareable
returns-then-not-shareable c = search exporting

pub returns : goal.returns
returns c = search exporting

pub resource_row-r-requires : goal.resource_row-r-requires
resource_row-r-requires c = search exporting
