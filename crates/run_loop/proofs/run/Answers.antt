use Rattle.std.proofs.Common.{arith}
use Rattle.run_loop.specs.Turning.{advancing, run-stops}
use Rattle.run_loop.proofs.run.Goals as goal

pub loop-units-init : goal.loop-units-init
loop-units-init c = (omega arith, search advancing, search advancing, search advancing)

pub turn_once-spent-requires : goal.turn_once-spent-requires
turn_once-spent-requires c = search advancing

pub returns-then-spent-eq0 : goal.returns-then-spent-eq0
returns-then-spent-eq0 c = search (run-stops, c.turn_once-spent.ensures)

pub loop-units-preserved : goal.loop-units-preserved
loop-units-preserved c = (omega arith, search advancing, search advancing, search advancing)

pub returns : goal.returns
returns c = search advancing
