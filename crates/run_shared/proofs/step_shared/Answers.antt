-- `step_shared` meets its contract. Assumes nothing.
use Rattle.run_shared.specs.Shared.{stepping_shared}
use Rattle.run_shared.proofs.step_shared.Goals as goal

pub returns : goal.returns
returns c = search stepping_shared
