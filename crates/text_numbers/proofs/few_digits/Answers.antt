-- `few_digits` meets its contract. Assumes nothing.
use Rattle.text_numbers.specs.Counting.{counting_few}
use Rattle.text_numbers.proofs.few_digits.Goals as goal

pub returns-in-0-to-9 : goal.returns-in-0-to-9
returns-in-0-to-9 c = search counting_few

pub returns-in-10-to-99 : goal.returns-in-10-to-99
returns-in-10-to-99 c = search counting_few

pub returns-in-100-to-999 : goal.returns-in-100-to-999
returns-in-100-to-999 c = search counting_few

pub returns-in_default : goal.returns-in_default
returns-in_default c = search counting_few
