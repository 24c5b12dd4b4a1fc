-- `rename_rows` meets its contract. The invariant: the first i rows are changed. Assumes nothing.
use Rattle.std.proofs.Common.{◌≡◌}
use Rattle.rows_renaming.specs.Renaming.{rows_renamed}
use Rattle.rows_renaming.proofs.rename_rows.Given as goal

abbrev pub invariant-loop-i : goal.invariant-loop-i
invariant-loop-i l = l.rows ≡ rows_renamed l.width l.at l.old l.new l.i l.initial.rows
