-- `lowest_left` meets its contract. The invariant: `best` is the lowest name by the rows from i on. Assumes nothing.
use Rattle.std.proofs.Common.{◌≡◌}
use Rattle.kept_resources.specs.Views.{resource_of_row}
use Rattle.rows.specs.Rows.{table_from}
use Rattle.rules.specs.Names.{lowest_left}
use Rattle.kept_names.proofs.naming.lowest_left.Given as goal

abbrev pub invariant-loop-i : goal.invariant-loop-i
invariant-loop-i l = l.best ≡ lowest_left l.low (table_from resource_of_row 12 l.i l.live l.resources)
