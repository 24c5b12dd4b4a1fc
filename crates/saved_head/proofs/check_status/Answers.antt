-- `check_status` meets its contract. Assumes nothing.
use Rattle.saved_head.specs.Head.{judging_head}
use Rattle.saved_head.proofs.check_status.Goals as goal

pub returns : goal.returns
returns c = search judging_head
