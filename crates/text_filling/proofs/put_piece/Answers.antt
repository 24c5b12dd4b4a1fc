-- `put_piece` meets its contract. Assumes nothing.
use Rattle.text_filling.specs.Filling.{writing_piece}
use Rattle.text_filling.proofs.put_piece.Goals as goal

pub put_decimal-requires : goal.put_decimal-requires
put_decimal-requires c = search writing_piece

pub put_hex-requires : goal.put_hex-requires
put_hex-requires c = search writing_piece

pub put_signed-requires : goal.put_signed-requires
put_signed-requires c = search writing_piece

pub bounds-out-at : goal.bounds-out-at
bounds-out-at c = search writing_piece

pub returns-in-37 : goal.returns-in-37
returns-in-37 c = search writing_piece

pub returns-in-35 : goal.returns-in-35
returns-in-35 c = search writing_piece

pub returns-in-126 : goal.returns-in-126
returns-in-126 c = search writing_piece

pub returns-in_default : goal.returns-in_default
returns-in_default c = search writing_piece
