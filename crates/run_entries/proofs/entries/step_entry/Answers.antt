-- `step_entry` meets its contract. Assumes nothing.
use Rattle.run_entries.specs.Entries.{stepping_entry}
use Rattle.run_entries.proofs.entries.step_entry.Goals as goal

pub returns-in-Err : goal.returns-in-Err
returns-in-Err c = search stepping_entry

pub returns-in-Ok : goal.returns-in-Ok
returns-in-Ok c = search stepping_entry
