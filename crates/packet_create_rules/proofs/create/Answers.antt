-- `create` meets its contract: a law for each return. Assumes nothing.
use Rattle.packet_create_rules.specs.Backing.{creating}
use Rattle.packet_create_rules.proofs.create.Goals as goal

pub returns-then-r-eq0 : goal.returns-then-r-eq0
returns-then-r-eq0 c = search creating

pub returns-then-is_some : goal.returns-then-is_some
returns-then-is_some c = search creating

pub returns-then-not-good : goal.returns-then-not-good
returns-then-not-good c = search creating

pub returns-then-r-eq0-2 : goal.returns-then-r-eq0-2
returns-then-r-eq0-2 c = search creating

pub returns : goal.returns
returns c = search creating
