-- `next_differing` meets its contract. The invariant: what is sought is sought from the present offset on. Assumes nothing.
use Rattle.std.proofs.Common.{◌≡◌}
use Rattle.diff_bytes.specs.Differing.{first_of, from_offset}
use Rattle.rules.specs.Difference.{differing, next_from}
use Rattle.diff_bytes.proofs.next_differing.Given as goal

abbrev pub invariant-loop-i : goal.invariant-loop-i
invariant-loop-i l = next_from l.from (differing l.a l.b) ≡ first_of (from_offset l.a l.b l.i)
