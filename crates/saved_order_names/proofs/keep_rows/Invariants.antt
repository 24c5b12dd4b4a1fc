-- `keep_rows` meets its contract. The invariant: those of the order's first rows that are asked for are kept. Assumes nothing.
use Rattle.std.proofs.Common.{◌≤◌}
use Rattle.saved_order_names.specs.Names.{KeepsTo}
use Rattle.saved_order_names.proofs.keep_rows.Given as goal

abbrev pub invariant-loop-row : goal.invariant-loop-row
invariant-loop-row l = (l.found ≤ l.row-index) × KeepsTo l.others l.resources l.order l.row-index l.kept l.found
