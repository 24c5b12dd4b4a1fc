-- `layout` meets its contract. Assumes nothing.
use Rattle.export_numbers.specs.Layout.{laying_out}
use Rattle.export_numbers.proofs.layout.Goals as goal

pub returns : goal.returns
returns c = search laying_out
