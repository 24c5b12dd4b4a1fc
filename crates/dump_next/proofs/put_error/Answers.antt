-- `put_error` meets its contract. Assumes nothing.
use Rattle.dump_next.specs.Next.{writing_error}
use Rattle.dump_next.proofs.put_error.Goals as goal

pub fill-requires : goal.fill-requires
fill-requires c = search writing_error

pub returns : goal.returns
returns c = search writing_error
