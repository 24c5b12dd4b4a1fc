-- `load_registers` meets its contract. Assumes nothing.
use Rattle.saved_load_words.specs.Words.{writing_registers}
use Rattle.saved_load_words.proofs.load_registers.Goals as goal

pub returns : goal.returns
returns c = search writing_registers
