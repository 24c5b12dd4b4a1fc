-- `move_row` meets its contract. The invariant: the first words of the row are copied. Assumes nothing.
use Rattle.std.proofs.Common.{◌≡◌}
use Rattle.rows.specs.Rows.{copied}
use Rattle.rows.proofs.move_row.Given as goal

abbrev pub invariant-loop-k : goal.invariant-loop-k
invariant-loop-k l = l.rows ≡ copied l.width l.from l.to l.initial.rows l.k
