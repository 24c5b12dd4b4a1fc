-- `signed_of` meets its contract, a law for each end. Assumes nothing.
use Rattle.signed.specs.Signed.{signs}
use Rattle.signed.proofs.signed_of.Goals as goal

pub returns-then-word-lt-FIRST_NEGATIVE : goal.returns-then-word-lt-FIRST_NEGATIVE
returns-then-word-lt-FIRST_NEGATIVE c = search signs

pub overflow_sub-result-2 : goal.overflow_sub-result-2
overflow_sub-result-2 c = search signs

pub returns : goal.returns
returns c = search signs
