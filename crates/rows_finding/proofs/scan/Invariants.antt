-- `scan` meets its contract. The invariant: the key's place among all rows is i further than among those from row i on.
-- The measure is what is left of the few rows in front. Assumes nothing.
use Rattle.std.proofs.Common.{◌≡◌, ◌≤◌, ◌-◌, ◌+◌}
use Rattle.rows.specs.Rows.{table, table_from}
use Rattle.rows_finding.specs.Among.{key_in}
use Rattle.rules.specs.Lists.{index_of}
use Rattle.rows_finding.proofs.scan.Given as goal

abbrev pub invariant-loop-i : goal.invariant-loop-i
invariant-loop-i g l = let k = g.K.Key in (l.i ≤ l.few) × (index_of (key_in k.word k.reading) (k.sought l.key) (table (λ r. r) l.width l.count l.rows) ≡ l.i + index_of (key_in k.word k.reading) (k.sought l.key) (table_from (λ r. r) l.width l.i l.count l.rows))

abbrev pub decreases-loop-i : goal.decreases-loop-i
decreases-loop-i g l = l.few - l.i
