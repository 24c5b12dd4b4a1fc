use Rattle.diff_bytes.specs.Differing.{seeking}
use Rattle.diff_bytes.proofs.next_differing.Goals as goal

pub loop-i-init : goal.loop-i-init
loop-i-init c = search seeking

pub returns-then-differs : goal.returns-then-differs
returns-then-differs c = search seeking

pub loop-i-preserved : goal.loop-i-preserved
loop-i-preserved c = search seeking

pub returns : goal.returns
returns c = search seeking
