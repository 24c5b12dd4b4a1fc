-- `is_beyond` meets its contract, a law for each end. Assumes nothing.
use Rattle.saved_order_names.specs.Form.{going_beyond}
use Rattle.saved_order_names.proofs.form.is_beyond.Goals as goal

pub returns-then-words-ne0 : goal.returns-then-words-ne0
returns-then-words-ne0 c = search going_beyond

pub returns-then-low32-ne0 : goal.returns-then-low32-ne0
returns-then-low32-ne0 c = search going_beyond

pub returns : goal.returns
returns c = search going_beyond
