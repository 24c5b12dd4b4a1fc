-- `hex_digit` meets its contract. Assumes nothing.
use Rattle.text_numbers.specs.Numbers.{writing_hex}
use Rattle.text_numbers.proofs.hex_digit.Goals as goal

pub returns-then-d-lt10 : goal.returns-then-d-lt10
returns-then-d-lt10 c = search writing_hex

pub returns-else-d-lt10 : goal.returns-else-d-lt10
returns-else-d-lt10 c = search writing_hex
