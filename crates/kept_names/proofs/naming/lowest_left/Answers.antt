use Rattle.kept_names.specs.Naming.{lowest_naming}
use Rattle.kept_names.proofs.naming.lowest_left.Goals as goal

pub loop-i-init : goal.loop-i-init
loop-i-init c = search lowest_naming

pub loop-i-preserved : goal.loop-i-preserved
loop-i-preserved c = search lowest_naming

pub returns : goal.returns
returns c = search lowest_naming
