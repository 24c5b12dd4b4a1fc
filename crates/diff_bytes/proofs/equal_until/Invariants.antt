-- `equal_until` meets its contract. The invariant: nothing differs before the present offset. Assumes nothing.
use Rattle.std.proofs.Common.{◌≡◌, ◌-◌}
use Rattle.diff_bytes.specs.Differing.{from_offset}
use Rattle.diff_bytes.proofs.equal_until.Given as goal

abbrev pub invariant-loop-i : goal.invariant-loop-i
invariant-loop-i l = from_offset l.a l.b l.from ≡ from_offset l.a l.b l.i

abbrev pub decreases-loop-i : goal.decreases-loop-i
decreases-loop-i l = l.end - l.i
