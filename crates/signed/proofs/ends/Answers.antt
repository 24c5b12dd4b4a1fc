-- `ends` meets its contract, a law for each end. Assumes nothing.
use Rattle.signed.specs.Signed.{signs}
use Rattle.signed.proofs.ends.Goals as goal

pub returns-then-is_negative : goal.returns-then-is_negative
returns-then-is_negative c = search signs

pub returns : goal.returns
returns c = search signs
