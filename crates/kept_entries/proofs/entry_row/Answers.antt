use Rattle.kept_entries.specs.Rows.{reading_entry}
use Rattle.kept_entries.proofs.entry_row.Goals as goal

pub returns : goal.returns
returns c = search reading_entry
