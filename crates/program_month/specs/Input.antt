-- The records in the bytes of a submission. Assumes nothing.
use Rattle.std.specs.Prelude.{◌≡◌, List, ℕ, ◌+◌, ◌*◌, ◌≤◌}
use Rattle.std.proofs.Common.{◌∙◌, zero-add, add-one, arith, rules}
use Rattle.rules.specs.Bytes.{field}
use Rattle.rules.specs.Lists.{pushed}
use Rattle.rules.specs.declared.Record.{Record}
use Rattle.rows.specs.Rows.{tab, tab-snoc, table-zero}
use Rattle.kept_resources.specs.Views.{record_of, records_of}

-- "kind u32, length u64", 12 bytes each
abbrev pub record_at : List ℕ → ℕ → Record
record_at b i = record { kind = field 4 b (12 * i); handle = 0; id = 0; gpa = 0; length = field 8 b (12 * i + 4) }

unfoldable pub records_in : List ℕ → ℕ → List Record
records_in b n = tab (record_at b) 0 n

pub input-start : (b l : List ℕ) → records_of 0 l ≡ records_in b 0
unfolding records_in tab
input-start b l = table-zero record_of 5 l

pub input-next : (b l m : List ℕ) (i kind long : ℕ) → records_of i l ≡ records_in b i → kind ≡ field 4 b (12 * i) → long ≡ field 8 b (12 * i + 4)
    → records_of (i + 1) m ≡ pushed (records_of i l) (record { kind = kind; handle = 0; id = 0; gpa = 0; length = long }) → records_of (i + 1) m ≡ records_in b (i + 1)
unfolding records_in
input-next b l m i kind long so_far p q h = h ∙ rw (so_far, p, q, add-one, tab-snoc (record_at b) 0 i, zero-add)

pub input-end : (b l : List ℕ) (i n : ℕ) → records_of i l ≡ records_in b i → i ≤ n → n ≤ i → records_of n l ≡ records_in b n
input-end b l i n h p q = let e : i ≡ n = omega arith in rw e at h

pub ruleset inputting = (input-start, input-next, input-end, rules)
