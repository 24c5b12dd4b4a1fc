-- `refuse_renaming` meets its contract. Assumes nothing.
use Rattle.std.proofs.Common.{rules}
use Rattle.packet_ranges.specs.Views.{renames-nothing}
use Rattle.packet_ranges.proofs.applied.refuse_renaming.Goals as goal

pub returns : goal.returns
returns c = search (renames-nothing, rules)
