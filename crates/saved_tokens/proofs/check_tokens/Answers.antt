-- `check_tokens` meets its contract. Assumes nothing.
use Rattle.saved_tokens.specs.Tokens.{judging_section_4}
use Rattle.saved_tokens.proofs.check_tokens.Goals as goal

pub returns-in-Err : goal.returns-in-Err
returns-in-Err c = search judging_section_4

pub returns-in-Ok : goal.returns-in-Ok
returns-in-Ok c = search judging_section_4
