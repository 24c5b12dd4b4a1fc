-- `check_detail` meets its contract. Assumes nothing.
use Rattle.saved_head.specs.Head.{judging_head}
use Rattle.saved_head.proofs.check_detail.Goals as goal

pub returns-then-field_at-eq0 : goal.returns-then-field_at-eq0
returns-then-field_at-eq0 c = search judging_head

pub returns-in-One : goal.returns-in-One
returns-in-One c = search judging_head

pub returns-else-field_at-eq0 : goal.returns-else-field_at-eq0
returns-else-field_at-eq0 c = search judging_head
