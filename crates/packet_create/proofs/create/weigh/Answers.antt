-- `weigh` meets its contract. Assumes nothing.
use Rattle.packet_create.specs.Create.{weighing}
use Rattle.packet_create.proofs.create.weigh.Goals as goal

pub returns-then-good_shape : goal.returns-then-good_shape
returns-then-good_shape c = search weighing

pub returns-else-good_shape : goal.returns-else-good_shape
returns-else-good_shape c = search weighing

pub returns-then-bytes-eq0 : goal.returns-then-bytes-eq0
returns-then-bytes-eq0 c = search weighing

pub returns-else-bytes-eq0 : goal.returns-else-bytes-eq0
returns-else-bytes-eq0 c = search weighing
