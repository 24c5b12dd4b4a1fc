-- `form_in` meets its contract. Assumes nothing.
use Rattle.saved_forms.specs.Number.{forming}
use Rattle.saved_forms.proofs.form_in.Goals as goal

pub returns-then-field_at-eq-NUMBER_2 : goal.returns-then-field_at-eq-NUMBER_2
returns-then-field_at-eq-NUMBER_2 c = search forming

pub returns : goal.returns
returns c = search forming
