-- `judge_texture` meets its contract. Assumes nothing.
use Rattle.saved_resources.specs.Judged.{judging_kind}
use Rattle.saved_resources.proofs.judge_texture.Goals as goal

pub returns : goal.returns
returns c = search judging_kind
