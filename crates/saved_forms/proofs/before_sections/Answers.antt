-- `before_sections` meets its contract. Assumes nothing.
use Rattle.saved_forms.specs.Number.{forming}
use Rattle.saved_forms.proofs.before_sections.Goals as goal

pub returns-then-first-eq-NUMBER_1 : goal.returns-then-first-eq-NUMBER_1
returns-then-first-eq-NUMBER_1 c = (search forming, search forming)

pub returns-then-first-eq-NUMBER_2 : goal.returns-then-first-eq-NUMBER_2
returns-then-first-eq-NUMBER_2 c = (search forming, search forming)

pub returns : goal.returns
returns c = (search forming, search forming)
