-- Wish 2, unit by unit: over two memories that differ only in bytes appended to a submission's packets, each unit comes to the same state,
-- with the same resources, records, tokens and place kept, and writes the same. Assumes nothing.
use Rattle.std.specs.Prelude.{◌≡◌, Bool, length, Err, Ok}
use Rattle.std.proofs.Math.Path.{refl}
use Rattle.std.proofs.Common.{arith, length-append}
use Rattle.std.proofs.Math.Bool.{true, false}
use mathlib.Core.List.{List}
use Prim.Native.Nat.{ℕ, suc, ◌≤◌, ◌<◌}
use Rattle.machine.specs.Machine.{pick, Out}
use Rattle.rules.specs.Judging.{Verdict}
use Rattle.rules.specs.Layouts.{entry}
use Rattle.rules.specs.Table.{entry_place, entry_rules, keep, in_reach, take_entry}
use Rattle.rules.specs.Stream.{frame_of, left}
use Rattle.rules.specs.Ring.{opening_of}
use Rattle.rules.specs.State.{Work, State, World}
use Rattle.rules.specs.State.Work.{resting, entries, packets, waiting}
use Rattle.rules.specs.Unsliced.{submitted}
use Rattle.rules.specs.declared.Entry.{Entry}
use Rattle.rules.specs.declared.Refusal.{Refusal}
use Rattle.rules.specs.declared.Registers.{Registers}
use Rattle.rules.specs.declared.Opened.{Opened}
use Rattle.rules.specs.declared.Opening.TheVariants.{Started}
use Rattle.rules.specs.declared.Refusal.TheVariants.{BadEntry}
use Rattle.promises_of_submissions.specs.Whole.{midst}
use Rattle.promises_of_submissions.specs.LocalWrites.SameWrites.{unwritten}
use Rattle.promises_of_submissions.specs.LocalOpening.{SameOpening}
use Rattle.promises_of_submissions.specs.Locality.{lent, SameEnd}
use Rattle.promises_of_submissions.specs.Appended.{SameButAppended, SameSubmission}

-- what the units from a work on read until the host is asked, the same in two memories but for appended bytes
abbrev pub SameAhead : Registers → Work → List ℕ → List ℕ → Type 0
SameAhead r resting m m' =
    SameOpening m m' r.ring r.ringsize × ((o : Opened) → opening_of m r.ring r.ringsize ≡ Started o → SameSubmission m m' o 0)
SameAhead r (entries o kept) m m' = (length kept < o.table.count) × SameSubmission m m' o (length kept)
SameAhead r (packets j s at es h) m m' = SameButAppended (left m s at) (left m' s at)
SameAhead r (waiting j es h) m m' = 0 ≤ 0

-- ---- the next packet of two such streams

module _ (op size : ℕ) where
  pub no-packet : (b : List ℕ) (r : Refusal) → frame_of b ≡ Err r → frame_of b ≡ Ok (op, size) → ⊥
  no-packet b r e h = let z : ◌≡◌ {A = ℕ} 0 1 = cc in omega arith

-- ---- one unit

-- where nothing is written
pub same-unwritten : (m m' : List ℕ) (s : State) → SameEnd m m' (lent s m) (lent s m')
same-unwritten m m' s = record { state = refl; writes = unwritten }

-- two worlds after a unit: the same end, and in the midst of the submission m and m' stand as they were, the same ahead
pub record Onward (m m' : List ℕ) (w w' : World) : Type 0 where
  pub end : SameEnd m m' w w'
  pub ahead : midst w.state.work ≡ true → (w ≡ lent w.state m) × ((w' ≡ lent w.state m') × SameAhead w.state.regs w.state.work m m')

-- an entry that is judged drops none of those kept
pub kept-no-fewer : (m : List ℕ) (o : Opened) (kept : List Entry) → length kept ≤ length (take_entry m o.table kept).kept
unfolding take_entry
kept-no-fewer m o kept = by_tests (in_reach m o.table (length kept)) (entry_rules (length m) kept next)
  where
    next : Entry
    next = entry m (entry_place o.table (length kept))

    by_tests : (t : Bool) (v : Verdict) → length kept ≤ length (pick t (keep v kept next) (record { verdict = Err BadEntry; kept = kept })).kept
    by_tests true (Ok _) = rw length-append (omega arith)
    by_tests true (Err r) = omega arith
    by_tests false v = omega arith

-- ---- any number of units

-- two runs, or two submissions, of as many units, that have come to the same end
pub record SameOut (m m' : List ℕ) (o o' : Out World) : Type 0 where
  pub units : o.units ≡ o'.units
  pub end : SameEnd m m' o.state o'.state
