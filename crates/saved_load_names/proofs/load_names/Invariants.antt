-- `load_names` meets its contract. The invariant: the rows stored so far are the first other names of the file. Assumes nothing.
use Rattle.std.proofs.Common.{◌≡◌, ◌++◌, ◌+◌}
use Rattle.kept_resources.specs.Views.{resources_of}
use Rattle.rules.specs.Loaded.{loaded_names}
use Rattle.saved_load_names.proofs.load_names.Given as goal

abbrev pub invariant-loop-i : goal.invariant-loop-i
invariant-loop-i l = resources_of (l.live + l.i) l.resources ≡ resources_of l.live l.initial.resources ++ loaded_names l.i (resources_of l.live l.initial.resources) l.file l.start
