use Rattle.table_entries.specs.Entry.{pushing}
use Rattle.table_entries.proofs.entry.push_entry.Goals as goal

pub returns : goal.returns
returns c = search pushing
