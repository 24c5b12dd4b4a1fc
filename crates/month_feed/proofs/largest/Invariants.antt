-- `largest` meets its contract. Assumes nothing.
use Rattle.std.proofs.Common.{◌≡◌, max}
use Rattle.kept_resources.specs.Views.{records_of}
use Rattle.month_feed.specs.Scanning.{left}
use Rattle.rules.specs.Month.{greatest, length_in}
use Rattle.rules.specs.Numbers.{writes}
use Rattle.month_feed.proofs.largest.Given as goal

abbrev pub invariant-loop-i : goal.invariant-loop-i
invariant-loop-i l = greatest (length_in writes) (records_of l.count l.records) ≡ max l.top (greatest (length_in writes) (left l.i l.count l.records))
