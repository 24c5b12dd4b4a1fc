-- `put_names` meets its contract. The invariant: the first i names are written. Assumes nothing.
use Rattle.kept_resources.specs.Views.{resource_of_row}
use Rattle.rules.specs.Saved.{name_bytes}
use Rattle.saved_write.specs.Items.{WritesTo}
use Rattle.saved_write_shared.specs.Shared.{name_fields}
use Rattle.saved_write_shared.proofs.names.put_names.Given as goal

abbrev pub invariant-loop-i : goal.invariant-loop-i
invariant-loop-i l = WritesTo name_fields resource_of_row 12 name_bytes l.at l.resources l.order l.initial.buffer l.i l.buffer
