-- `compare` meets its contract. Assumes nothing.
use Rattle.diff_pairs.specs.Pairs.{comparing}
use Rattle.diff_pairs.proofs.compare.Goals as goal

pub returns-then-u32_at : goal.returns-then-u32_at
returns-then-u32_at c = search comparing

pub returns-in-Some : goal.returns-in-Some
returns-in-Some c = search comparing

pub returns-in-None : goal.returns-in-None
returns-in-None c = search comparing
