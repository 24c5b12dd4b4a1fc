-- `is_bound` meets its contract: names are the rows' first words. Assumes nothing.
use Rattle.kept_tokens.specs.Tokens.{finding_bound}
use Rattle.kept_tokens.proofs.finding.is_bound.Goals as goal

pub returns : goal.returns
returns c = search finding_bound
