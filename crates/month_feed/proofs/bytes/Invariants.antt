-- `bytes` meets its contract. Assumes nothing.
use Rattle.std.proofs.Common.{◌≡◌, ◌+◌, ◌<◌}
use Rattle.kept_resources.specs.Views.{records_of}
use Rattle.month_feed.specs.Scanning.{left}
use Rattle.rules.specs.Month.{sum, length_in}
use Rattle.month_feed.proofs.bytes.Given as goal

abbrev pub invariant-loop-i : goal.invariant-loop-i
invariant-loop-i l = (l.total < 18446744073709551616) × (sum (length_in l.kind) (records_of l.count l.records) ≡ l.total + sum (length_in l.kind) (left l.i l.count l.records))
