-- `acknowledge` meets its contract. Assumes nothing.
use Rattle.register_writes.specs.Writing.{controlling}
use Rattle.register_writes.proofs.acknowledge.Goals as goal

pub returns : goal.returns
returns c = search controlling
