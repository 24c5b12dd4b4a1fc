-- `common` meets its contract, a law for each end. Assumes nothing.
use Rattle.signed.specs.Signed.{signs}
use Rattle.signed.proofs.common.Goals as goal

pub returns : goal.returns
returns c = search signs
