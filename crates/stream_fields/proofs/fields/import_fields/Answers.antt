-- `import_fields` meets its contract. Assumes nothing.
use Rattle.stream_fields.specs.Fields.{reading_fields}
use Rattle.stream_fields.proofs.fields.import_fields.Goals as goal

pub returns : goal.returns
returns c = search reading_fields
