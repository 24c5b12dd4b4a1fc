-- `place_of` meets its contract. The invariant: the packet sought is further on by the number that the count is short of the index. Assumes
-- nothing.
use Rattle.diff_walk.specs.Walk.{Left}
use Rattle.diff_walk.proofs.place_of.Given as goal

abbrev pub invariant-loop : goal.invariant-loop
invariant-loop l = Left l.stream l.index l.at l.counter
