-- The month in numbers (02, wish 13): its sentences as seven statements, over the rule book's `fed` and `merged`, which are what the calls do. `Chains` carries
-- them to calls that were really made. Assumes nothing.
use Rattle.std.specs.Prelude.{◌≡◌, List, ◌++◌}
use Rattle.rules.specs.Numbers.{done}
use Rattle.rules.specs.Month.{Finished, Totals, totals, fed, fed_all}
use Rattle.promises_of_months.specs.Counted.{fed-split, fed-leaves}

-- "whatever split they were fed in": one part after the other, from any totals
pub any-split-gives-the-same : (t : Totals) (ss ts : List Finished) → fed_all t (ss ++ ts) ≡ fed_all (fed_all t ss) ts
any-split-gives-the-same t ss ts = fed-split t ss ts

-- "counts nothing": refused, it leaves every total, whatever the totals were
pub refused-counts-nothing : (t : Totals) (s : Finished) → ((fed t s).answer ≡ done → ⊥) → (fed t s).totals ≡ t
refused-counts-nothing t s h = fed-leaves t s h
