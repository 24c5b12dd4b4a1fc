-- `copy_fields` meets its contract, by `Copy-is`. Assumes nothing.
use Rattle.stream_fields.specs.Fields.{reading_fields}
use Rattle.stream_fields.proofs.fields.copy_fields.Goals as goal

pub returns : goal.returns
returns c = search reading_fields
