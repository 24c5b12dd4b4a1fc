-- `put_front` meets its contract, by `front-written`. Assumes nothing.
use Rattle.saved_write_forms.specs.Sections.{writing_front}
use Rattle.saved_write_forms.proofs.put_front.Goals as goal

pub returns : goal.returns
returns c = search writing_front
