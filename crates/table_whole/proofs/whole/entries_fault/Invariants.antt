-- `entries_fault` meets its contract. The outer invariant: what is found from entry i on is what is found in all.
-- The inner one: the id is among the first i entries where it is among those from entry j on. Assumes nothing.
use Rattle.std.specs.Prelude.{◌≡◌}
use Rattle.table_whole.specs.Whole.{Scanned, Sought}
use Rattle.table_whole.proofs.whole.entries_fault.Given as goal

abbrev pub invariant-loop-j : goal.invariant-loop-j
invariant-loop-j l = (l.fault ≡ record { code = 0; place = 0 }) × Sought l.table l.memory l.t l.e.id l.i l.j

abbrev pub invariant-scan : goal.invariant-scan
invariant-scan l = (l.fault ≡ record { code = 0; place = 0 }) × Scanned l.table l.memory l.t l.i
