use Rattle.std.proofs.Common.{arith}
use Rattle.saved_tokens.specs.Tokens.{judging_tokens}
use Rattle.saved_tokens.proofs.judge_tokens.Goals as goal

pub loop-preserved : goal.loop-preserved
loop-preserved c = (omega arith, search judging_tokens)

pub returns : goal.returns
returns c = search judging_tokens
