use Rattle.ring_opening.specs.Opening.{opening_head}
use Rattle.ring_opening.proofs.opening.open_head.Goals as goal

pub returns-then-h : goal.returns-then-h
returns-then-h c = search opening_head

pub returns : goal.returns
returns c = search opening_head
