-- What an operation of a script asks to be lent. Assumes nothing.
use Rattle.std.specs.Prelude.{ℕ}
use Rattle.program_replay.specs.declared.script.Operation.{Operation}
use Rattle.program_replay.specs.declared.script.Operation.TheVariants.{RunElsewhere, AnswerElsewhere, Save, Move}

-- the length of the memory or of the buffer; none is 0
abbrev pub lent : Operation → ℕ
lent (RunElsewhere allowance length) = length
lent (AnswerElsewhere is_good allowance length) = length
lent (Save form length) = length
lent (Move file length) = length
lent other = 0
