-- `put_back` meets its contract, by `back-written`. Assumes nothing.
use Rattle.saved_write_forms.specs.Sections.{writing_back}
use Rattle.saved_write_forms.proofs.put_back.Goals as goal

pub returns : goal.returns
returns c = search writing_back
