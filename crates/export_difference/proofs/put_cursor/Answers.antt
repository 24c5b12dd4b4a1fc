-- `put_cursor` meets its contract. Assumes nothing.
use Rattle.export_difference.specs.Saying.{putting_cursor}
use Rattle.export_difference.proofs.put_cursor.Goals as goal

pub returns : goal.returns
returns c = search putting_cursor
