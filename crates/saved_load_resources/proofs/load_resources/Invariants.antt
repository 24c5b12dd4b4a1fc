-- `load_resources` meets its contract. The invariant: the rows stored so far are the first resources of the file. Assumes nothing.
use Rattle.std.proofs.Common.{◌≡◌, ◌+◌, ◌*◌}
use Rattle.kept_resources.specs.Views.{resources_of}
use Rattle.rules.specs.Loaded.{loaded_resources}
use Rattle.saved_load_resources.proofs.load_resources.Given as goal

abbrev pub invariant-loop-i : goal.invariant-loop-i
invariant-loop-i l = (l.at ≡ l.start + 48 * l.i) × (resources_of l.i l.resources ≡ loaded_resources l.i l.file l.start)
