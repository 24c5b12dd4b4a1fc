use Rattle.ring_opening.specs.Opening.{opening_ring}
use Rattle.ring_opening.proofs.opening.open.Goals as goal

pub returns-then-size-lt-RING_HEADER_SIZE : goal.returns-then-size-lt-RING_HEADER_SIZE
returns-then-size-lt-RING_HEADER_SIZE c = search opening_ring

pub returns-then-beyond : goal.returns-then-beyond
returns-then-beyond c = search opening_ring

pub header_at-h-requires : goal.header_at-h-requires
header_at-h-requires c = search opening_ring

pub returns-then-not-good : goal.returns-then-not-good
returns-then-not-good c = search opening_ring

pub open_head-requires : goal.open_head-requires
open_head-requires c = search opening_ring

pub returns : goal.returns
returns c = search opening_ring
