-- `put_fields` meets its contract. The invariant: the first i fields are written. Assumes nothing.
use Rattle.std.proofs.Common.{◌≡◌, take}
use Rattle.rules.specs.Lists.{over}
use Rattle.rules.specs.Saved.{file_of}
use Rattle.saved_write.proofs.put_fields.Given as goal

abbrev pub invariant-loop-i : goal.invariant-loop-i
invariant-loop-i l = l.buffer ≡ over l.at (file_of (take l.i l.fields)) l.initial.buffer
