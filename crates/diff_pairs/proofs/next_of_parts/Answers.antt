-- `next_of_parts` meets its contract. Assumes nothing.
use Rattle.diff_pairs.specs.Pairs.{comparing}
use Rattle.diff_pairs.proofs.next_of_parts.Goals as goal

pub returns-then-u32_at : goal.returns-then-u32_at
returns-then-u32_at c = search comparing

pub returns : goal.returns
returns c = search comparing
