-- `add` meets its contract. Assumes nothing.
use Rattle.std.proofs.Common.{◌≡◌}
use Rattle.month_totals.specs.Merging.{sums_of}
use Rattle.rows.specs.Rows.{copied_words}
use Rattle.month_totals.proofs.add.Given as goal

abbrev pub invariant-loop-i : goal.invariant-loop-i
invariant-loop-i l = l.a ≡ copied_words 25 (sums_of l.initial.a l.b) l.initial.a l.i
