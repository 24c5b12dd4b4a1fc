use Rattle.kept_records.specs.Records.{pushing_record}
use Rattle.kept_records.proofs.push_record.Goals as goal

pub returns : goal.returns
returns c = search pushing_record
