-- 01, "Open" 13 and 19, and "Entry": the allocation table.
use Rattle.std.specs.Prelude.{Bool, true, false, ◌&&◌, List, [], ◌∷◌, ℕ, zero, suc, ◌+◌, ◌*◌, ltb, leb, eqb, length, Err, Ok}
use Rattle.machine.specs.Machine.{pick}
use Rattle.rules.specs.Numbers.{most, table_magic}
use Rattle.rules.specs.Lists.{Found, lookup, pushed}
use Rattle.rules.specs.Lists.Found.{none, found}
use Rattle.rules.specs.Judging.{rule, ◌▹◌, Finding, fault_at, without_place, number, place_of, Verdict}
use Rattle.rules.specs.Judging.Finding.{fine, broken}
use Rattle.rules.specs.Layouts.{table_header, table_header_size, entry, entry_size}
use Rattle.rules.specs.Headers.{wrong_header}
use Rattle.rules.specs.declared.TableHeader.{TableHeader}
use Rattle.rules.specs.declared.Entry.{Entry}
use Rattle.rules.specs.declared.Table.{Table}
use Rattle.rules.specs.declared.Refusal.TheVariants.{BadTable, BadEntry, TwiceInTable, TooMany}

-- "13: table size below 24; magic; version; header size below 24 or above table size; entry stride below 32;
-- 24 + count*stride above header size. Then 19: count above 64."
unfoldable pub header_rules : ℕ → TableHeader → Verdict
header_rules tablesize h =
    rule BadTable (wrong_header table_magic table_header_size tablesize h.magic h.version h.size)
    ▹ rule BadTable (ltb h.stride entry_size)
    ▹ rule BadTable (ltb h.size (table_header_size + h.count * h.stride))
    ▹ rule TooMany (ltb most h.count)

-- the numbers kept of it
abbrev pub checked_table : ℕ → TableHeader → Table
checked_table gpa h = record { gpa = gpa; count = h.count; stride = h.stride }

abbrev pub no_table : Table
no_table = record { gpa = 0; count = 0; stride = 0 }

-- ---- entries

abbrev pub entry_id : Entry → ℕ
entry_id e = e.id

-- the one entry that has an id
abbrev pub matching : ℕ → List Entry → Found Entry
matching = lookup entry_id

abbrev pub is_found : Found Entry → Bool
is_found none = false
is_found (found e) = true

-- where an entry stands: by the table's own stride
abbrev pub entry_place : Table → ℕ → ℕ
entry_place t i = t.gpa + (table_header_size + i * t.stride)

-- "14: id 0, size 0, or gpa + size above memory length"
-- "15: an earlier entry has this id."
unfoldable pub entry_rules : ℕ → List Entry → Entry → Verdict
entry_rules memory earlier e =
    rule BadEntry (eqb e.id 0)
    ▹ rule BadEntry (eqb e.size 0)
    ▹ rule BadEntry (ltb memory (e.gpa + e.size))
    ▹ rule TwiceInTable (is_found (matching e.id earlier))

-- ---- one entry, over the memory lent at its step

-- what judging an entry comes to: one that is refused is not kept
pub record Taken : Type 0 where
  pub verdict : Verdict
  pub kept : List Entry

abbrev pub keep : Verdict → List Entry → Entry → Taken
keep (Ok _) kept e = record { verdict = Ok tt; kept = pushed kept e }
keep (Err r) kept e = record { verdict = Err r; kept = kept }

-- an entry lies within memory and has room: so does each of a table that was opened
abbrev pub in_reach : List ℕ → Table → ℕ → Bool
in_reach m t i = ltb i most && leb (entry_place t i + entry_size) (length m)

-- the entry after those that were kept. "Checked entries are kept"
unfoldable pub take_entry : List ℕ → Table → List Entry → Taken
take_entry m t kept =
    pick (in_reach m t (length kept))
    (keep (entry_rules (length m) kept (entry m (entry_place t (length kept)))) kept (entry m (entry_place t (length kept))))
    (record { verdict = Err BadEntry; kept = kept })

-- ---- the table as a list

-- entries i, i + 1, .., n of them
unfoldable pub entries_from : List ℕ → Table → ℕ → ℕ → List Entry
entries_from m t i zero = []
entries_from m t i (suc n) = entry m (entry_place t i) ∷ entries_from m t (suc i) n

abbrev pub entries_of : List ℕ → Table → List Entry
entries_of m t = entries_from m t 0 t.count

-- what a list of entries judged one after the other comes to: the first broken rule with its place, and how many were judged up to and with it
pub record Judged : Type 0 where
  pub finding : Finding
  pub count : ℕ

abbrev pub stop_or_go : ℕ → Verdict → Judged → Judged
stop_or_go place (Ok _) later = record { finding = later.finding; count = suc later.count }
stop_or_go place (Err r) later = record { finding = broken (fault_at place r); count = 1 }

-- "in table order". An entry's place is its index: as many are earlier.
unfoldable pub judge_entries : ℕ → List Entry → List Entry → Judged
judge_entries memory earlier [] = record { finding = fine; count = 0 }
judge_entries memory earlier (e ∷ es) = stop_or_go (length earlier) (entry_rules memory earlier e) (judge_entries memory (pushed earlier e) es)

-- the header's rules come first; theirs has no place
abbrev pub after_header : Verdict → Finding → Finding
after_header (Ok _) later = later
after_header (Err r) later = broken (without_place r)

-- "a table's first error ..: takes the lent length as table size and a memory length, and finds 13, 19, 14, 15 as the steps do"
unfoldable pub table_finding : List ℕ → ℕ → Finding
table_finding b memory =
    after_header (header_rules (length b) (table_header b 0))
    (judge_entries memory [] (entries_of b (checked_table 0 (table_header b 0)))).finding

unfoldable pub table_error : List ℕ → ℕ → ℕ
table_error b memory = number (table_finding b memory)

-- and its place, as the register would show it: the entry's index for 14 and 15, else 0
unfoldable pub table_place : List ℕ → ℕ → ℕ
table_place b memory = place_of (table_finding b memory)
