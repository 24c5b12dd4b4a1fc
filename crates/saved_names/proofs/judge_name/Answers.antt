-- `judge_name` meets its contract. Assumes nothing.
use Rattle.saved_names.specs.Names.{judging_name}
use Rattle.saved_names.proofs.judge_name.Goals as goal

pub returns : goal.returns
returns c = search judging_name
