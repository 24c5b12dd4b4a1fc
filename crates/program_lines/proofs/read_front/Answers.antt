-- `read_front` meets its contract. Assumes nothing.
use Rattle.program_lines.proofs.Reading.{limited-front}
use Rattle.program_lines.proofs.read_front.Goals as goal

pub returns-in_default : goal.returns-in_default
returns-in_default g c = limited-front g.R.Read.remaining _ _ _ _ _ _ _ c.take.ensures.inner c.take.ensures.limit c.new-bytes.ensures.items c.read_to_end.ensures.none_lost
