-- `read_entries` meets its contract. The invariant: the phase goes, and the run of the allowance is the units spent so far and a run
-- of the rest from here. Assumes nothing.
use Rattle.std.proofs.Common.{◌≡◌, ◌≤◌, ◌-◌}
use Rattle.machine.specs.Machine.{spent, run_while}
use Rattle.rules.specs.Numbers.{most}
use Rattle.run_entries.specs.Entries.{reading_goes, read_step, reading_of, from_row}
use Rattle.run_entries.specs.declared.ending.Ending.TheVariants.{Going}
use Rattle.run_entries.proofs.entries.read_entries.Given as goal

abbrev pub invariant-loop-units : goal.invariant-loop-units
invariant-loop-units l = (l.p.ending ≡ Going)
    × (l.p.kept ≤ most)
    × (run_while reading_goes (read_step l.mem l.t) l.allowance (from_row l.kept l.initial.entries) ≡ spent l.units (run_while reading_goes (read_step l.mem l.t) (l.allowance - l.units) (reading_of l.p l.entries)))
