-- `copy_between` meets its contract, a law for each end. Assumes nothing.
use Rattle.packet_copy.specs.Copy.{copying_between}
use Rattle.packet_copy.proofs.copy.copy_between.Goals as goal

pub returns-then-c : goal.returns-then-c
returns-then-c c = search copying_between

pub returns-then-c-gt-WRITEBACK : goal.returns-then-c-gt-WRITEBACK
returns-then-c-gt-WRITEBACK c = search copying_between

pub returns-then-beyond : goal.returns-then-beyond
returns-then-beyond c = search copying_between

pub returns-then-beyond-2 : goal.returns-then-beyond-2
returns-then-beyond-2 c = search copying_between

pub returns-then-c-eq-WRITEBACK : goal.returns-then-c-eq-WRITEBACK
returns-then-c-eq-WRITEBACK c = search copying_between

pub returns : goal.returns
returns c = search copying_between
