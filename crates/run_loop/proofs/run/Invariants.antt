-- `run` meets its contract. The invariant: the run of the allowance is the units spent so far and a run of the rest from here, and
-- the same tables stay the device's. The measure is the allowance that is left. Assumes nothing.
use Rattle.std.proofs.Common.{◌≡◌, ◌≤◌, ◌-◌, length}
use Rattle.machine.specs.Machine.{spent}
use Rattle.rules.specs.Steps.{run_for}
use Rattle.run_state.specs.Views.{sides_in}
use Rattle.run_turns.specs.Views.{tables, world_with}
use Rattle.run_loop.proofs.run.Given as goal

abbrev pub invariant-loop-units : goal.invariant-loop-units
invariant-loop-units l = (l.units ≤ l.allowance)
    × (length l.mem ≡ length l.initial.mem)
    × (run_for l.allowance (world_with l.initial.words (tables l.initial.entries l.resources l.initial.own l.initial.firsttokens l.initial.secondtokens l.initial.records) l.initial.mem)
    ≡ spent l.units (run_for (l.allowance - l.units) (world_with l.words (tables l.entries l.resources l.own l.firsttokens l.secondtokens l.records) l.mem)))
    × (sides_in l.words ≡ sides_in l.initial.words)

abbrev pub decreases-loop-units : goal.decreases-loop-units
decreases-loop-units l = l.allowance - l.units
