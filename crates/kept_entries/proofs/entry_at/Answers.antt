-- `entry_at` meets its contract, by `entry_read`. Assumes nothing.
use Rattle.kept_entries.specs.Rows.{reading_entry}
use Rattle.kept_entries.proofs.entry_at.Goals as goal

pub returns : goal.returns
returns c = search reading_entry
