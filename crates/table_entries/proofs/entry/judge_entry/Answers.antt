-- `judge_entry` meets its contract, by the laws of `judging-entry`. Assumes nothing.
use Rattle.table_entries.specs.Entry.{judging_entry}
use Rattle.table_entries.proofs.entry.judge_entry.Goals as goal

pub returns-then-not-sound : goal.returns-then-not-sound
returns-then-not-sound c = search judging_entry

pub returns-then-is_some : goal.returns-then-is_some
returns-then-is_some c = search judging_entry

pub returns : goal.returns
returns c = search judging_entry
