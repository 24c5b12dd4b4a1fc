-- What `read` shows and what `write` makes of the registers, said of the rule book's register map.
-- Assumes nothing.
use Rattle.std.specs.Prelude.{ℕ, Option, Some, None}
use Rattle.rules.specs.Lists.{Found}
use Rattle.rules.specs.Lists.Found.{none, found}
use Rattle.rules.specs.Registers.{Read}

-- ---- reads

abbrev pub shown : Found Read → Option ℕ
shown none = None
shown (found x) = Some x.value
