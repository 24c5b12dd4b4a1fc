use Rattle.run_entries.specs.Entries.{reading_on}
use Rattle.run_entries.proofs.entries.read_entries.Goals as goal

pub loop-units-init : goal.loop-units-init
loop-units-init c = (search reading_on, search reading_on, search reading_on)

pub returns-in_default : goal.returns-in_default
returns-in_default c = search reading_on

pub loop-units-preserved : goal.loop-units-preserved
loop-units-preserved c = (search reading_on, search reading_on, search reading_on)

pub returns : goal.returns
returns c = search reading_on
