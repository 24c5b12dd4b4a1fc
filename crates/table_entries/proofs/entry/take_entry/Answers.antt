-- `take_entry` meets its contract, by the laws of `taking`. Assumes nothing.
use Rattle.table_entries.specs.Entry.{taking}
use Rattle.table_entries.proofs.entry.take_entry.Goals as goal

pub returns-then-kept-ge-MOST_ROWS : goal.returns-then-kept-ge-MOST_ROWS
returns-then-kept-ge-MOST_ROWS c = search taking

pub returns-then-beyond : goal.returns-then-beyond
returns-then-beyond c = search taking

pub overflow_add-t : goal.overflow_add-t
overflow_add-t c = search taking

pub entry_at-e-requires : goal.entry_at-e-requires
entry_at-e-requires c = search taking

pub push_entry-requires : goal.push_entry-requires
push_entry-requires c = search taking

pub returns-in-Ok : goal.returns-in-Ok
returns-in-Ok c = search taking

pub returns-in-Err : goal.returns-in-Err
returns-in-Err c = search taking
