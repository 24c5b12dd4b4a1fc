-- `put_hex` meets its contract. The invariant: what is left of the text is the digits of what is left of the number. Assumes nothing.
use Rattle.rules.specs.Text.{hex}
use Rattle.text_numbers.specs.Writing.{Backs}
use Rattle.text_numbers.proofs.put_hex.Given as goal

abbrev pub invariant-loop-i : goal.invariant-loop-i
invariant-loop-i l = Backs l.at (hex l.count l.n) l.initial.out (hex l.i l.rest) l.i l.out
