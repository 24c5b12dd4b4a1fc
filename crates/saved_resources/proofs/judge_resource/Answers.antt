-- `judge_resource` meets its contract. Assumes nothing.
use Rattle.saved_resources.specs.Judged.{judging_resource}
use Rattle.saved_resources.proofs.judge_resource.Goals as goal

pub returns-then-s-eq-BUFFER_KIND : goal.returns-then-s-eq-BUFFER_KIND
returns-then-s-eq-BUFFER_KIND c = search judging_resource

pub returns : goal.returns
returns c = search judging_resource
