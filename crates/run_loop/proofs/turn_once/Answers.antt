-- `turn_once` meets its contract. Assumes nothing.
use Rattle.run_loop.specs.Turning.{turning_once}
use Rattle.run_loop.proofs.turn_once.Goals as goal

pub returns-then-words-eq0 : goal.returns-then-words-eq0
returns-then-words-eq0 c = search turning_once

pub returns-then-tag-eq-PACKETS : goal.returns-then-tag-eq-PACKETS
returns-then-tag-eq-PACKETS c = search turning_once

pub returns-then-tag-eq-ENTRIES : goal.returns-then-tag-eq-ENTRIES
returns-then-tag-eq-ENTRIES c = search turning_once

pub returns-then-tag-ne-NOTHING : goal.returns-then-tag-ne-NOTHING
returns-then-tag-ne-NOTHING c = search turning_once

pub returns-then-words-eq0-2 : goal.returns-then-words-eq0-2
returns-then-words-eq0-2 c = search turning_once

pub returns : goal.returns
returns c = search turning_once
