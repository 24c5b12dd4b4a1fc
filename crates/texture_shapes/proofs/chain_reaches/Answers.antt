-- `chain_reaches` tests the full chain by one shift.
-- Assumes nothing.
use Rattle.texture_shapes.specs.Chain.{chaining}
use Rattle.texture_shapes.proofs.chain_reaches.Goals as goal

pub returns-then-mips-le1 : goal.returns-then-mips-le1
returns-then-mips-le1 c = search chaining

pub returns-then-mips-gt-LONGEST_CHAIN : goal.returns-then-mips-gt-LONGEST_CHAIN
returns-then-mips-gt-LONGEST_CHAIN c = search chaining

pub returns : goal.returns
returns c = search chaining
