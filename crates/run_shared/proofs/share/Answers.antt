-- `share` meets its contract. Assumes nothing.
use Rattle.run_shared.specs.Shared.{sharing}
use Rattle.run_shared.proofs.share.Goals as goal

pub returns-then-words-eq0 : goal.returns-then-words-eq0
returns-then-words-eq0 c = search sharing

pub returns : goal.returns
returns c = search sharing
