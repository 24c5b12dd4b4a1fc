-- `same_eight` meets its contract. Assumes nothing.
use Rattle.std.proofs.Common.{rules}
use Rattle.diff_bytes.specs.Differing.{eight-same}
use Rattle.diff_bytes.proofs.same_eight.Goals as goal

pub returns : goal.returns
returns c = search (eight-same, c.type_inv.a, c.type_inv.b, rules)
