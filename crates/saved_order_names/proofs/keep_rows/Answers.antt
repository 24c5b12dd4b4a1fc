use Rattle.std.proofs.Common.{◌<◌, arith, get_or-take}
use Rattle.saved_order_names.specs.Names.{keeping, keep_one, keep-none}
use Rattle.saved_order_names.proofs.keep_rows.Goals as goal
use Rattle.saved_order_names.proofs.keep_rows.Goals.{then-is_asked, else-is_asked}

pub loop-row-init : goal.loop-row-init
loop-row-init c = (omega arith, search keeping)

pub loop-row-preserved : goal.loop-row-preserved
loop-row-preserved c =
    let h : c.loop-row.row-index < c.args.count = omega arith in
    let is = rw get_or-take at c.is_asked.ensures in
    elim c.if-is_asked.branch [
      | then-is_asked w ↦
          (omega arith, rw (w.kept-is, w.found-is, get_or-take) (keep_one _ _ _ _ c.requires _ _ _ c.loop-row.invariant.1 h _ is w.if-is_asked.true c.loop-row.invariant.0))
      | else-is_asked w ↦ (omega arith, rw (w.kept-is, w.found-is) (keep-none _ _ _ _ c.requires _ _ _ c.loop-row.invariant.1 h _ is w.if-is_asked.false))
    ]
