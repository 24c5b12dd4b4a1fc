-- `shareable_at` meets its contract. Assumes nothing.
use Rattle.saved_names.specs.Scan.{sharing}
use Rattle.saved_names.proofs.shareable_at.Goals as goal

pub returns-then-field_at-eq-BUFFER_KIND : goal.returns-then-field_at-eq-BUFFER_KIND
returns-then-field_at-eq-BUFFER_KIND c = search sharing

pub returns-then-field_at-ne1 : goal.returns-then-field_at-ne1
returns-then-field_at-ne1 c = search sharing

pub returns : goal.returns
returns c = search sharing
