-- `by_eight` meets its contract. The invariant: the rows left are eights, and the key's place from the first on is as far as
-- from row i on. The measure is the rows that are left. Assumes nothing.
use Rattle.std.proofs.Common.{◌≡◌, ◌≤◌, ◌-◌, ◌+◌, ◌%◌}
use Rattle.rows.specs.Rows.{table_from}
use Rattle.rows_finding.specs.Among.{key_in}
use Rattle.rules.specs.Lists.{index_of}
use Rattle.rows_finding.proofs.by_eight.Given as goal

abbrev pub invariant-loop-i : goal.invariant-loop-i
invariant-loop-i g l = let k = g.K.Key in ((l.i ≤ l.count) × ((l.count - l.i) % 8 ≡ 0)) × (l.from + index_of (key_in k.word k.reading) (k.sought l.key) (table_from (λ r. r) l.width l.from l.count l.rows) ≡ l.i + index_of (key_in k.word k.reading) (k.sought l.key) (table_from (λ r. r) l.width l.i l.count l.rows))

abbrev pub decreases-loop-i : goal.decreases-loop-i
decreases-loop-i g l = l.count - l.i
