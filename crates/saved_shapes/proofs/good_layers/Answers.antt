-- `good_layers` meets its contract. Assumes nothing.
use Rattle.saved_shapes.specs.Shapes.{counting}
use Rattle.saved_shapes.proofs.good_layers.Goals as goal

pub returns-then-layers-lt1 : goal.returns-then-layers-lt1
returns-then-layers-lt1 c = search counting

pub returns : goal.returns
returns c = search counting
