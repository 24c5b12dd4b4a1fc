-- `open_ring` meets its contract. Assumes nothing.
use Rattle.run_open.specs.Opening.{opening}
use Rattle.run_open.proofs.open_ring.Goals as goal

pub returns-in-BadRing : goal.returns-in-BadRing
returns-in-BadRing c = search opening

pub returns-in-NoWork : goal.returns-in-NoWork
returns-in-NoWork c = search opening

pub returns-in-Refused : goal.returns-in-Refused
returns-in-Refused c = search opening

pub returns-in-Started : goal.returns-in-Started
returns-in-Started c = search opening
