use Rattle.kept_storing.specs.Storing.{flattening}
use Rattle.kept_storing.proofs.flat.Goals as goal

pub returns-in-Texture : goal.returns-in-Texture
returns-in-Texture c = search flattening
