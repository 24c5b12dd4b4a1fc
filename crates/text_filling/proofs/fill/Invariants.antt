-- `fill` meets its contract. The invariant: what is left of the text is what is left of the pattern with what is left of the numbers. Assumes nothing.
use Rattle.std.proofs.Common.{◌≤◌, drop}
use Rattle.text_filling.specs.Filling.{filled}
use Rattle.text_numbers.specs.Writing.{Writes}
use Rattle.text_filling.proofs.fill.Given as goal

abbrev pub invariant-loop-c : goal.invariant-loop-c
invariant-loop-c l = (l.next ≤ l.c-index) × Writes l.at (filled l.pattern l.numbers) l.initial.out (filled (drop l.c-index l.pattern) (drop l.next l.numbers)) l.end l.out
