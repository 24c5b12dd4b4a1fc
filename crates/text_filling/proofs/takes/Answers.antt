-- `takes` meets its contract. Assumes nothing.
use Rattle.text_filling.specs.Filling.{writing_piece}
use Rattle.text_filling.proofs.takes.Goals as goal

pub returns-in-37 : goal.returns-in-37
returns-in-37 c = search writing_piece

pub returns-in_default : goal.returns-in_default
returns-in_default c = search writing_piece
