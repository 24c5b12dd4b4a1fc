-- `read` meets its contract. Assumes nothing.
use Rattle.device_calls.specs.Calling.{reading}
use Rattle.device_calls.proofs.read.Goals as goal

pub returns : goal.returns
returns c = search reading
