-- `put_resources` meets its contract. The invariant: the first i resources are written. Assumes nothing.
use Rattle.kept_resources.specs.Views.{resource_of_row}
use Rattle.rules.specs.Saved.{resource_bytes, resource_fields}
use Rattle.saved_write.specs.Items.{WritesTo}
use Rattle.saved_write.proofs.resources.put_resources.Given as goal

abbrev pub invariant-loop-i : goal.invariant-loop-i
invariant-loop-i l = WritesTo resource_fields resource_of_row 12 resource_bytes l.at l.resources l.order l.initial.buffer l.i l.buffer
