-- `skip_unknown` meets its contract. The invariant: there is room up to the bound, and what the function ensures is true of here. Assumes nothing.
use Rattle.std.proofs.Common.{◌≡◌, ◌<◌, ◌+◌}
use Rattle.run_packets.specs.Playing.{Skips}
use Rattle.run_packets.proofs.skip_unknown.Given as goal

abbrev pub invariant-loop-units : goal.invariant-loop-units
invariant-loop-units l = (0 < l.room) × (l.at + l.room ≡ l.bound) × Skips l.stream l.bound l.from l.spent l.allowance (record { at = l.at; units = l.units })
