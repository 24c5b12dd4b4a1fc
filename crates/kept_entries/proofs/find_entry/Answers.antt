-- `find_entry` meets its contract, by `entry-found-at`. Assumes nothing.
use Rattle.kept_entries.specs.Rows.{finding_entry}
use Rattle.kept_entries.proofs.find_entry.Goals as goal

pub returns : goal.returns
returns c = search finding_entry
