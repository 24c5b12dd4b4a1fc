-- `share_on` meets its contract. Assumes nothing.
use Rattle.run_shared.specs.Shared.{sharing_on}
use Rattle.run_shared.proofs.share_on.Goals as goal

pub held_tokens-t-requires : goal.held_tokens-t-requires
held_tokens-t-requires c = search sharing_on

pub step_shared-x-requires : goal.step_shared-x-requires
step_shared-x-requires c = search sharing_on

pub store_tokens-requires : goal.store_tokens-requires
store_tokens-requires c = search sharing_on

pub returns : goal.returns
returns c = search sharing_on
