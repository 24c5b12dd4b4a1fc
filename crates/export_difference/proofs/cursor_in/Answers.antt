-- `cursor_in` meets its contract. Assumes nothing.
use Rattle.export_difference.specs.Saying.{putting_cursor}
use Rattle.export_difference.proofs.cursor_in.Goals as goal

pub returns : goal.returns
returns c = search putting_cursor
