-- `parting` meets its contract. The invariant: the streams part where the rest of them does. Assumes nothing.
use Rattle.std.proofs.Common.{◌-◌, length}
use Rattle.diff_pairs.specs.Parting.{PartsFrom}
use Rattle.diff_pairs.proofs.parting.Given as goal

abbrev pub invariant-loop-at : goal.invariant-loop-at
invariant-loop-at l = PartsFrom l.first l.second l.at l.to l.i

abbrev pub decreases-loop-at : goal.decreases-loop-at
decreases-loop-at l = length l.first - l.at
