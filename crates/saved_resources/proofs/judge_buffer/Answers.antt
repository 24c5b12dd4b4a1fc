-- `judge_buffer` meets its contract. Assumes nothing.
use Rattle.saved_resources.specs.Judged.{judging_kind}
use Rattle.saved_resources.proofs.judge_buffer.Goals as goal

pub returns : goal.returns
returns c = search judging_kind
