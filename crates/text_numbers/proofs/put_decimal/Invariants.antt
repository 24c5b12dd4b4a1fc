-- `put_decimal` meets its contract. The invariant: what is left of the text is the digits of what is left of the number. Assumes nothing.
use Rattle.std.proofs.Common.{◌<◌, ◌^◌}
use Rattle.rules.specs.Text.{decimal}
use Rattle.text_numbers.specs.Writing.{Backs}
use Rattle.text_numbers.specs.Numbers.{digits_left}
use Rattle.text_numbers.proofs.put_decimal.Given as goal

abbrev pub invariant-loop-i : goal.invariant-loop-i
invariant-loop-i l = (l.rest < 2 ^ 64) × Backs l.at (decimal l.n) l.initial.out (digits_left l.i l.rest) l.i l.out
