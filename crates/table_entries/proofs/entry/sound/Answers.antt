-- `sound` meets its contract, by the laws of `sounding`. Assumes nothing.
use Rattle.table_entries.specs.Entry.{sounding}
use Rattle.table_entries.proofs.entry.sound.Goals as goal

pub returns-then-e-eq0 : goal.returns-then-e-eq0
returns-then-e-eq0 c = search sounding

pub returns-then-e-eq0-2 : goal.returns-then-e-eq0-2
returns-then-e-eq0-2 c = search sounding

pub beyond-requires : goal.beyond-requires
beyond-requires c = search sounding

pub returns : goal.returns
returns c = search sounding
