-- `store_opened` meets its contract. Assumes nothing.
use Rattle.run_begin.specs.Beginning.{storing_opened}
use Rattle.run_begin.proofs.store_opened.Goals as goal

pub returns : goal.returns
returns c = search storing_opened
