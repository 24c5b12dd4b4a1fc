-- `load_tokens` meets its contract. The invariant: the rows stored so far are the first tokens of the file. Assumes nothing.
use Rattle.std.proofs.Common.{◌≡◌}
use Rattle.kept_tokens.specs.Views.{tokens_of}
use Rattle.rules.specs.Loaded.{loaded_tokens}
use Rattle.saved_load_tokens.proofs.load_tokens.Given as goal

abbrev pub invariant-loop-i : goal.invariant-loop-i
invariant-loop-i l = tokens_of l.i l.tokens ≡ loaded_tokens l.i l.file l.start
