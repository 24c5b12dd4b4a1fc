-- `ended_in` meets its contract. Assumes nothing.
use Rattle.run_answered.specs.Answered.{ending_in}
use Rattle.run_answered.proofs.ended_in.Goals as goal

pub returns-then-tag-ge-WAITING : goal.returns-then-tag-ge-WAITING
returns-then-tag-ge-WAITING c = search ending_in

pub returns-then-words-eq0 : goal.returns-then-words-eq0
returns-then-words-eq0 c = search ending_in

pub returns-then-tag-ne-NOTHING : goal.returns-then-tag-ne-NOTHING
returns-then-tag-ne-NOTHING c = search ending_in

pub returns-then-words-eq0-2 : goal.returns-then-words-eq0-2
returns-then-words-eq0-2 c = search ending_in

pub returns : goal.returns
returns c = search ending_in
