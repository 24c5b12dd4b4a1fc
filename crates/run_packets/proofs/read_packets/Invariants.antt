-- `read_packets` meets its contract. The invariant: the phase goes, and the run of the allowance is the units spent so far and a run
-- of the rest from here. The measure is the allowance that is left. Assumes nothing.
use Rattle.std.proofs.Common.{◌≡◌, ◌≤◌, ◌-◌}
use Rattle.kept_entries.specs.Views.{entries_of}
use Rattle.packet_ranges.specs.Views.{RowsExist}
use Rattle.run_entries.specs.declared.ending.Ending.TheVariants.{Going}
use Rattle.run_packets.specs.Playing.{packet_tables, RunsOn}
use Rattle.run_packets.proofs.read_packets.Given as goal

abbrev pub invariant-loop-units : goal.invariant-loop-units
invariant-loop-units l = (l.units ≤ l.allowance)
    × (l.p.ending ≡ Going)
    × RowsExist l.kept l.p.held.live l.p.held.made
    × RunsOn l.stream l.end (entries_of l.kept l.entries) l.allowance l.initial.p (packet_tables l.entries l.resources l.initial.own l.initial.records) l.units l.p (packet_tables l.entries l.resources l.own l.records)

abbrev pub decreases-loop-units : goal.decreases-loop-units
decreases-loop-units l = l.allowance - l.units
