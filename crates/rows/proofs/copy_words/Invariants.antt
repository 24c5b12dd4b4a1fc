-- `copy_words` meets its contract. The invariant: the first words are copied. Assumes nothing.
use Rattle.std.proofs.Common.{◌≡◌}
use Rattle.rows.specs.Rows.{copied_words}
use Rattle.rows.proofs.copy_words.Given as goal

abbrev pub invariant-loop-done : goal.invariant-loop-done
invariant-loop-done l = l.to ≡ copied_words l.n l.from l.initial.to l.done
