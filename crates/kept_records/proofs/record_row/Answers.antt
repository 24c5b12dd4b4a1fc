use Rattle.kept_records.specs.Records.{reading_record}
use Rattle.kept_records.proofs.record_row.Goals as goal

pub returns : goal.returns
returns c = search reading_record
