-- 01, "Open" 13 and 16: what the headers of an allocation table and of a command stream share.
use Rattle.std.specs.Prelude.{Bool, not, ◌||◌, ℕ, ltb, eqb}
use Rattle.rules.specs.Layouts.{good_version}

-- "size below 24; magic; version; header size below 24 or above table size": of a range that should begin with a magic and has a header of so
-- many bytes, and of the magic, the version and the size that stand there
unfoldable pub wrong_header : ℕ → ℕ → ℕ → ℕ → ℕ → ℕ → Bool
wrong_header wanted header range magic version size =
    ltb range header
    || (not (eqb magic wanted)
    || (not (good_version version)
    || (ltb size header
    || ltb range size)))
