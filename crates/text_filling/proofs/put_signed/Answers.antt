-- `put_signed` meets its contract. Assumes nothing.
use Rattle.text_filling.specs.Filling.{writing_signed}
use Rattle.text_filling.proofs.put_signed.Goals as goal

pub put_decimal-requires : goal.put_decimal-requires
put_decimal-requires c = search writing_signed

pub returns-then-word-lt-FIRST_NEGATIVE : goal.returns-then-word-lt-FIRST_NEGATIVE
returns-then-word-lt-FIRST_NEGATIVE c = search writing_signed

pub bounds-out-at : goal.bounds-out-at
bounds-out-at c = search writing_signed

pub put_decimal-requires-2 : goal.put_decimal-requires-2
put_decimal-requires-2 c = search writing_signed

pub returns : goal.returns
returns c = search writing_signed
