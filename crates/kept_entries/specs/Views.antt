-- Kept entries as rows of four words: how a row is read, and what a step's answer and rows come to.
use Rattle.std.specs.Prelude.{List, ℕ, ◌+◌, ◌-◌, ◌%◌, ◌^◌, ◌<◌, ◌≡◌, get_or, Err, Ok}
use Rattle.rules.specs.Table.{Taken}
use Rattle.rules.specs.declared.Entry.{Entry}
use Rattle.rows.specs.Rows.{table}
use Rattle.rules.specs.Judging.{Verdict}

-- an id and flags are four bytes wide; the last word is where the entry ends, so that no row's entry ends above 2^64
abbrev pub entry_of : List ℕ → Entry
entry_of r = record { id = get_or r 0 0 % 2 ^ 32; flags = get_or r 1 0 % 2 ^ 32; gpa = get_or r 2 0; size = get_or r 3 0 - get_or r 2 0 }

-- what a row is read as, and where its range ends
pub record RowRead (r : List ℕ) (e : Entry) : Type 0 where
  pub entry : e ≡ entry_of r
  pub ends : e.gpa + e.size < 2 ^ 64

-- the first n of the kept rows
abbrev pub entries_of : ℕ → List ℕ → List Entry
entries_of n l = table entry_of 4 n l

-- how many are kept after a verdict
abbrev pub grown : Verdict → ℕ → ℕ
grown (Ok _) n = n + 1
grown (Err r) n = n

abbrev pub taken_of : Verdict → ℕ → List ℕ → Taken
taken_of v n l = record { verdict = v; kept = entries_of (grown v n) l }
