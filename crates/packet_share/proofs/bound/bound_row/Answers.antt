-- `bound_row` meets its contract, a law for each end. Assumes nothing.
use Rattle.packet_share.specs.Bound.{binding}
use Rattle.packet_share.proofs.bound.bound_row.Goals as goal

pub returns-then-place-used : goal.returns-then-place-used
returns-then-place-used c = search binding

pub returns-then-t-eq0 : goal.returns-then-t-eq0
returns-then-t-eq0 c = search binding

pub returns : goal.returns
returns c = search binding
