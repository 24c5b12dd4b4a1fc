-- `first_fault` meets its contract: a fine header is followed by the scan of the entries. Assumes nothing.
use Rattle.table_whole.specs.Whole.{first_fault_of}
use Rattle.table_whole.proofs.whole.first_fault.Goals as goal

pub entries_fault-requires : goal.entries_fault-requires
entries_fault-requires c = search first_fault_of

pub returns-in-Ok : goal.returns-in-Ok
returns-in-Ok c = search first_fault_of

pub returns-in-Err : goal.returns-in-Err
returns-in-Err c = search first_fault_of
