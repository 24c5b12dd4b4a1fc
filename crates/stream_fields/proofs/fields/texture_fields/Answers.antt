-- `texture_fields` meets its contract, by `texture-is`. Assumes nothing.
use Rattle.stream_fields.specs.Fields.{reading_fields}
use Rattle.stream_fields.proofs.fields.texture_fields.Goals as goal

pub returns : goal.returns
returns c = search reading_fields
