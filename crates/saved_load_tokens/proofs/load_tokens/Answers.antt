use Rattle.saved_load_tokens.specs.Loading.{loading_rows}
use Rattle.saved_load_tokens.proofs.load_tokens.Goals as goal

pub loop-i-init : goal.loop-i-init
loop-i-init c = search loading_rows

pub loop-i-preserved : goal.loop-i-preserved
loop-i-preserved c = search loading_rows
