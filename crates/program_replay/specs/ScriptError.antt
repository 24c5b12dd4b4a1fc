-- What a transcript says of a script that cannot be played on. Assumes nothing.
use Rattle.std.specs.Prelude.{ℕ, List, ◌++◌, codes}
use Rattle.std.specs.Fmt.{decimal}
use Rattle.program_replay.specs.declared.script.ScriptError.{ScriptError}
use Rattle.program_replay.specs.declared.script.ScriptError.TheVariants.{Truncated, BadScript, UnknownTag}

-- the last line, without its line feed
abbrev pub last_line : ScriptError → List ℕ
last_line Truncated = codes "truncated"
last_line BadScript = codes "bad script"
last_line (UnknownTag tag) = codes "unknown tag " ++ decimal tag
