-- `bytes_below` adds up the mips of one layer.
-- The loop keeps the offset of the mip it has come to, and a bound on it. Assumes nothing.
use Rattle.std.proofs.Common.{◌≡◌, ◌≤◌, ◌*◌}
use Rattle.rules.specs.Shapes.{offset_of}
use Rattle.texture_shapes.specs.Bounds.{most_of_mip}
use Rattle.texture_sizes.proofs.bytes_below.Given as goal

abbrev pub invariant-loop-mip : goal.invariant-loop-mip
invariant-loop-mip l = (l.sum ≡ offset_of l.s l.pitch l.mip) × (l.sum ≤ l.mip * most_of_mip)
