-- `packets_fault` meets its contract. The invariant: the stream ends as what is left of it ends. Assumes nothing.
use Rattle.std.proofs.Common.{◌≡◌, ◌-◌, length}
use Rattle.diff_walk.specs.Walk.{ending_from}
use Rattle.rules.specs.Difference.{broken_by}
use Rattle.rules.specs.Layouts.{stream_header_size}
use Rattle.diff_walk.proofs.packets_fault.Given as goal

abbrev pub invariant-loop-at : goal.invariant-loop-at
invariant-loop-at l = broken_by (ending_from l.stream stream_header_size) ≡ broken_by (ending_from l.stream l.at)

abbrev pub decreases-loop-at : goal.decreases-loop-at
decreases-loop-at l = length l.stream - l.at
