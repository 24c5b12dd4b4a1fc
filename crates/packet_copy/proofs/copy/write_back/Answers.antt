-- `write_back` meets its contract, a law for each end. Assumes nothing.
use Rattle.packet_copy.specs.Copy.{writing_back}
use Rattle.packet_copy.proofs.copy.write_back.Goals as goal

pub returns-then-dst-eq0 : goal.returns-then-dst-eq0
returns-then-dst-eq0 c = search writing_back

pub returns-then-flags-eq1 : goal.returns-then-flags-eq1
returns-then-flags-eq1 c = search writing_back

pub returns-in-Err : goal.returns-in-Err
returns-in-Err c = search writing_back

pub returns-else-flags-eq1 : goal.returns-else-flags-eq1
returns-else-flags-eq1 c = search writing_back
