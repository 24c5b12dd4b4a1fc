use Rattle.std.proofs.Common.{arith}
use Rattle.texture_sizes.specs.Layers.{summing}
use Rattle.texture_sizes.proofs.bytes_below.Goals as goal

pub loop-mip-init : goal.loop-mip-init
loop-mip-init c = (search summing, omega arith)

pub loop-mip-preserved : goal.loop-mip-preserved
loop-mip-preserved c = (search summing, omega arith)
