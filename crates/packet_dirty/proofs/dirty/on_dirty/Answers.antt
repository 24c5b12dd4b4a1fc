-- `on_dirty` meets its contract, a law for each end. Assumes nothing.
use Rattle.packet_dirty.specs.Dirty.{dirtying}
use Rattle.packet_dirty.proofs.dirty.on_dirty.Goals as goal

pub returns-in_default : goal.returns-in_default
returns-in_default c = search dirtying

pub returns-then-r-eq0 : goal.returns-then-r-eq0
returns-then-r-eq0 c = search dirtying

pub returns-then-beyond : goal.returns-then-beyond
returns-then-beyond c = search dirtying

pub returns-in-Err : goal.returns-in-Err
returns-in-Err c = search dirtying

pub returns-in-Ok : goal.returns-in-Ok
returns-in-Ok c = search dirtying

pub resource_row-r-requires : goal.resource_row-r-requires
resource_row-r-requires c = search dirtying
