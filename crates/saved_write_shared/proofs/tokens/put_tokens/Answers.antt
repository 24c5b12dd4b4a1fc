use Rattle.saved_write_shared.specs.Shared.{writing_tokens}
use Rattle.saved_write_shared.proofs.tokens.put_tokens.Goals as goal

pub loop-i-init : goal.loop-i-init
loop-i-init c = search writing_tokens

pub loop-i-preserved : goal.loop-i-preserved
loop-i-preserved c = search writing_tokens
