use Rattle.std.proofs.Common.{arith}
use Rattle.saved_load_names.specs.Loading.{name-known, loading_names}
use Rattle.saved_load_names.proofs.load_names.Goals as goal

pub loop-i-init : goal.loop-i-init
loop-i-init c = search loading_names

pub name_at-r-requires : goal.name_at-r-requires
name_at-r-requires c =
    (omega arith, (omega arith, name-known _ _ c.args.start _ c.loop-i.i _ _ (omega arith) c.loop-i.invariant c.args.count (omega arith) c.requires.1.1))

pub loop-i-preserved : goal.loop-i-preserved
loop-i-preserved c = search loading_names
