-- `size_of` meets its contract, a law for each end. Assumes nothing.
use Rattle.signed.specs.Signed.{less-cast, size-cast, signs}
use Rattle.signed.proofs.size_of.Goals as goal

pub overflow_sub-less : goal.overflow_sub-less
overflow_sub-less c = search signs

pub overflow_cast-result : goal.overflow_cast-result
overflow_cast-result c = less-cast _ c.ranges.x _ c.is_negative.ensures c.if-is_negative.true

pub overflow_add-result : goal.overflow_add-result
overflow_add-result c = search signs

pub returns-then-is_negative : goal.returns-then-is_negative
returns-then-is_negative c = search signs

pub overflow_cast-result-2 : goal.overflow_cast-result-2
overflow_cast-result-2 c = size-cast _ c.ranges.x _ c.is_negative.ensures c.if-is_negative.false

pub returns : goal.returns
returns c = search signs
