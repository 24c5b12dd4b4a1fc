-- Wish 5, the names of a token's resource over a device's whole life: between resets, a bound token of the device's own keeps its resource's names but
-- for those imported or destroyed since. Over any calls and any memories; what a refused or failed submission imported or destroyed does not count.
-- Assumes nothing.
use Rattle.std.specs.Prelude.{Bool, eqb}
use mathlib.Core.List.{List, [], ◌++◌}
use Prim.Native.Nat.{ℕ, zero, suc, ◌≤◌}
use Rattle.machine.specs.Machine.{pick}
use Rattle.rules.specs.Numbers.{done}
use Rattle.rules.specs.Stream.{left, frame_of}
use Rattle.rules.specs.Packets.{Belongings, left_by}
use Rattle.rules.specs.State.{Work, State, World}
use Rattle.rules.specs.State.Work.{resting, entries, packets, waiting}
use Rattle.rules.specs.Steps.{step, answered}
use Rattle.rules.specs.Calls.{Ran, call_run, call_answer}
use Rattle.promises_of_units.specs.Called.{Call, Called}
use Rattle.promises_of_units.specs.Called.Call.{writes, reads, runs, records, answers}
use Rattle.promises_of_units.specs.Called.Called.{makes, loads, calls}
use Rattle.promises_of_sharing.specs.TokensOverCalls.{CalledOn, Onward}
use Rattle.promises_of_sharing.specs.TokensOverCalls.CalledOn.{not_yet, calls-on}
use Rattle.promises_of_sharing.specs.NamesKept.{in_frame, KeepsNamesBut}

-- ---- the names that were imported or destroyed since

-- those of the submission in work, with one unit more. An opening begins with none, so what a refused submission did is dropped.
abbrev pub names_after_unit : World → Work → List ℕ → List ℕ
names_after_unit w resting names = []
names_after_unit w (entries o kept) names = names
names_after_unit w (packets j t at es h) names = in_frame (left w.mem t at) (frame_of (left w.mem t at)) ++ names
names_after_unit w (waiting j es h) names = names

-- the same with some units more
unfoldable pub names_after_units : ℕ → World → List ℕ → List ℕ
names_after_units zero w names = names
names_after_units (suc n) w names = names_after_units n (step w) (names_after_unit w w.state.work names)

-- those of the submissions that were answered good, and so far of the one in work
pub record Names : Type 0 where
  pub by_good : List ℕ
  pub in_work : List ℕ

-- with an answer, if it is taken, and the units after it: what the submission did counts with "good" and is dropped with "failed"
abbrev pub names_after_answer : Bool → World → Ran → Names → Names
names_after_answer good w r x =
    pick (eqb r.answer done)
    (record { by_good = pick good (x.in_work ++ x.by_good) x.by_good; in_work = names_after_units r.units (answered good w) [] })
    x

-- with one call more
unfoldable pub names_after_call : Call → World → Names → Names
names_after_call (writes offset v) w x = x
names_after_call (reads offset) w x = x
names_after_call (runs n) w x = record { by_good = x.by_good; in_work = names_after_units (call_run w n).units w x.in_work }
names_after_call (records i) w x = x
names_after_call (answers good n) w x = names_after_answer good w (call_answer w good n) x

-- those of the submission in work, of any device made and called
unfoldable pub in_work_of : (s : State) → Called s → List ℕ
in_work_of s (makes memory) = []
in_work_of s (loads b good) = []
in_work_of s (calls {s = t} c m k) = (names_after_call c (record { state = t; mem = m }) (record { by_good = []; in_work = in_work_of t k })).in_work

-- those since such a device, over calls of which none is a reset. What was in work at first counts whole, if it is answered good.
unfoldable pub names_since : (s t : State) → Called s → CalledOn s t → Names
names_since s t k not_yet = record { by_good = []; in_work = in_work_of s k }
names_since s t k (calls-on {t = u} q c n m) = names_after_call c (record { state = u; mem = m }) (names_since s u k q)

-- ---- a submission in work keeps the device's names but those that it imported or destroyed

abbrev pub WorkKeeps : List ℕ → Belongings → Work → Type 0
WorkKeeps names own resting = 0 ≤ 0
WorkKeeps names own (entries o kept) = 0 ≤ 0
WorkKeeps names own (packets j t at es h) = KeepsNamesBut names own (left_by h)
WorkKeeps names own (waiting j es h) = KeepsNamesBut names own (left_by h)

module _ (w : World) (names : List ℕ) where
  abbrev pub own : Belongings
  own = w.state.belongings

-- ---- a device some calls after one that had these belongings: what was imported or destroyed accounts for every name that is not kept

pub record Follows (first : Belongings) (s : State) (x : Names) : Type 0 where
  pub onward : Onward first.tokens s
  pub own : KeepsNamesBut x.by_good first s.belongings
  pub work : WorkKeeps x.in_work s.belongings s.work

module _ (first : Belongings) where
  -- units: what was answered good stays
  module _ (by_good : List ℕ) where
    abbrev pub With : List ℕ → State → Type 0
    With names s = Follows first s (record { by_good = by_good; in_work = names })
