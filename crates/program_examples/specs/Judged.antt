-- What a line says of something that was judged. Assumes nothing.
use Rattle.std.specs.Prelude.{ℕ, List, ◌++◌, codes}
use Rattle.std.specs.Fmt.{decimal}
use Rattle.program_examples.specs.declared.lines.Judged.{Judged}
use Rattle.program_examples.specs.declared.lines.Judged.TheVariants.{Passes, Refused}

-- whether it passes, or the number of the rule that it breaks
abbrev pub words_of : Judged → List ℕ
words_of Passes = codes "passes"
words_of (Refused code) = codes "refused " ++ decimal code
