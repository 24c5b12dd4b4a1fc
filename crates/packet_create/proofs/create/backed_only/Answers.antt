-- `backed_only` meets its contract. Assumes nothing.
use Rattle.packet_create.specs.Create.{keeping}
use Rattle.packet_create.proofs.create.backed_only.Goals as goal

pub returns-then-backing-eq0 : goal.returns-then-backing-eq0
returns-then-backing-eq0 c = search keeping

pub returns-else-backing-eq0 : goal.returns-else-backing-eq0
returns-else-backing-eq0 c = search keeping
