-- `texture_shape` meets its contract, by `Shape-is`. Assumes nothing.
use Rattle.stream_fields.specs.Fields.{reading_fields}
use Rattle.stream_fields.proofs.fields.texture_shape.Goals as goal

pub returns : goal.returns
returns c = search reading_fields
