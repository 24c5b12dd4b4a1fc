-- `place_of` meets its contract. The invariant: what is found among all resources is what is found among those left. Assumes nothing.
use Rattle.std.proofs.Common.{◌≡◌, ◌-◌, ◌+◌, ◌*◌}
use Rattle.rules.specs.Lists.{lookup}
use Rattle.rules.specs.Loaded.{loaded_resources}
use Rattle.rules.specs.Packets.{handle_of}
use Rattle.saved_names.specs.Scan.{resources_of}
use Rattle.saved_names.proofs.place_of.Given as goal

abbrev pub invariant-loop : goal.invariant-loop
invariant-loop l = (l.at ≡ 96 + 48 * l.counter) × (lookup handle_of l.name (resources_of l.file l.count) ≡ lookup handle_of l.name (loaded_resources (l.count - l.counter) l.file l.at))
