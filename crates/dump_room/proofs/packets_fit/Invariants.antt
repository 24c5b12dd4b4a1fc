-- `packets_fit` meets its contract. The invariant: the room that is left is for the text that is left. Assumes nothing.
use Rattle.std.proofs.Common.{◌-◌, length}
use Rattle.dump_room.specs.Fitting.{Measures}
use Rattle.dump_room.proofs.packets_fit.Given as goal

abbrev pub invariant-loop-at : goal.invariant-loop-at
invariant-loop-at l = Measures l.strict l.dump l.initial.line l.room l.at l.left l.line

abbrev pub decreases-loop-at : goal.decreases-loop-at
decreases-loop-at l = length l.dump - l.at
