-- Demand 3, of lists of calls that write no register: the units that they report and the answers that they take settle where they stand,
-- however the runs are cut. Assumes nothing.
use Rattle.std.specs.Prelude.{◌≡◌, refl, Bool, true, false, List, [], ◌∷◌, ◌++◌, ℕ, zero, suc}
use Rattle.std.proofs.Common.{arith}
use Rattle.promises_of_packets.specs.Held.{Every}
use Rattle.promises_of_units.specs.Called.{Call, is_reset}
use Rattle.promises_of_units.specs.Called.Call.{writes, reads, runs, records, answers}
use Rattle.promises_of_units.specs.Acts.{Act, in_a_row, NoReset}
use Rattle.promises_of_units.specs.Acts.Act.{unit, write, answer}

-- ---- no register is written

abbrev pub is_write : Call → Bool
is_write (writes offset v) = true
is_write (reads offset) = false
is_write (runs n) = false
is_write (records i) = false
is_write (answers good n) = false

-- none of some calls writes a register
abbrev pub NoWrite : List Call → Type 0
NoWrite = Every (λ (c : Call). is_write c ≡ false)

abbrev pub is_written : Act → Bool
is_written unit = false
is_written (write offset v) = true
is_written (answer good) = false

abbrev pub Unwritten : List Act → Type 0
Unwritten = Every (λ (a : Act). is_written a ≡ false)

pub both-unwritten : (xs ys : List Act) → Unwritten xs → Unwritten ys → Unwritten (xs ++ ys)
unfolding Every
both-unwritten [] ys p q = q
both-unwritten (x ∷ xs) ys p q = (p.0, both-unwritten xs ys p.1 q)

pub row-unwritten : (n : ℕ) → Unwritten (in_a_row n)
unfolding Every in_a_row
row-unwritten zero = omega arith
row-unwritten (suc n) = (refl, row-unwritten n)

no-reset : (c : Call) → is_write c ≡ false → is_reset c ≡ false
no-reset (writes offset v) h = absurd (let z : ◌≡◌ {A = ℕ} 0 1 = cc in omega arith)
no-reset (reads offset) h = refl
no-reset (runs n) h = refl
no-reset (records i) h = refl
no-reset (answers good n) h = refl

-- calls that write no register do not reset
pub no-write-no-reset : (cs : List Call) → NoWrite cs → NoReset cs
unfolding Every
no-write-no-reset [] h = omega arith
no-write-no-reset (c ∷ cs) h = (no-reset c h.0, no-write-no-reset cs h.1)
