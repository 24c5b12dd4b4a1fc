-- `digits` meets its contract. Assumes nothing.
use Rattle.text_numbers.specs.Counting.{counting}
use Rattle.text_numbers.proofs.digits.Goals as goal

pub overflow_add-result : goal.overflow_add-result
overflow_add-result c = search counting

pub overflow_add-result-in_default : goal.overflow_add-result-in_default
overflow_add-result-in_default c = search counting

pub returns-in-10000-to-99999999 : goal.returns-in-10000-to-99999999
returns-in-10000-to-99999999 c = search counting

pub returns-in-100000000-to-999999999999 : goal.returns-in-100000000-to-999999999999
returns-in-100000000-to-999999999999 c = search counting

pub returns-in_default : goal.returns-in_default
returns-in_default c = search counting

pub overflow_add-result-in-100000000-to-999999999999 : goal.overflow_add-result-in-100000000-to-999999999999
overflow_add-result-in-100000000-to-999999999999 c = search counting

pub overflow_add-result-in-1000000000000-to-9999999999999999 : goal.overflow_add-result-in-1000000000000-to-9999999999999999
overflow_add-result-in-1000000000000-to-9999999999999999 c = search counting

pub returns-in-1000000000000-to-9999999999999999 : goal.returns-in-1000000000000-to-9999999999999999
returns-in-1000000000000-to-9999999999999999 c = search counting
