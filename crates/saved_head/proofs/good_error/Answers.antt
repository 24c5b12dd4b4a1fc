-- `good_error` meets its contract. Assumes nothing.
use Rattle.saved_head.specs.Head.{tying}
use Rattle.saved_head.proofs.good_error.Goals as goal

pub returns-then-code-ne0 : goal.returns-then-code-ne0
returns-then-code-ne0 c = search tying

pub returns-then-low-ne0 : goal.returns-then-low-ne0
returns-then-low-ne0 c = search tying

pub returns-then-high-ne0 : goal.returns-then-high-ne0
returns-then-high-ne0 c = search tying

pub returns : goal.returns
returns c = search tying
