-- `import` meets its contract. Assumes nothing.
use Rattle.packet_apply_shared.specs.Shared.{importing}
use Rattle.packet_apply_shared.proofs.import.Goals as goal

pub returns : goal.returns
returns c = search importing
