-- `put_tokens` meets its contract. The invariant: the first i tokens are written. Assumes nothing.
use Rattle.kept_tokens.specs.Views.{token_of_row}
use Rattle.rules.specs.Saved.{token_bytes}
use Rattle.saved_write.specs.Items.{WritesTo}
use Rattle.saved_write_shared.specs.Shared.{token_fields}
use Rattle.saved_write_shared.proofs.tokens.put_tokens.Given as goal

abbrev pub invariant-loop-i : goal.invariant-loop-i
invariant-loop-i l = WritesTo token_fields token_of_row 2 token_bytes l.at l.tokens l.order l.initial.buffer l.i l.buffer
