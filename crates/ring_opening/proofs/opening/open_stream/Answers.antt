use Rattle.ring_opening.specs.Opening.{opening_range}
use Rattle.ring_opening.proofs.opening.open_stream.Goals as goal

pub returns-then-size-eq0 : goal.returns-then-size-eq0
returns-then-size-eq0 c = search opening_range

pub check_header-requires : goal.check_header-requires
check_header-requires c = search opening_range

pub returns : goal.returns
returns c = search opening_range
