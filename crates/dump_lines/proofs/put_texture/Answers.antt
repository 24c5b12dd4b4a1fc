-- `put_texture` meets its contract. Assumes nothing.
use Rattle.dump_lines.specs.Lines.{writing_texture}
use Rattle.dump_lines.proofs.put_texture.Goals as goal

pub fill-requires : goal.fill-requires
fill-requires c = search writing_texture

pub returns : goal.returns
returns c = search writing_texture
