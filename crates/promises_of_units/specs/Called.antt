-- What a host does with a device: the five calls, one after the other. Saves, loads and moves among them are in Asked.antt. Assumes nothing.
use Rattle.std.specs.Prelude.{◌≡◌, Bool, false, List, [], ◌∷◌, ◌++◌, ℕ, ◌+◌, eqb}
use Rattle.machine.specs.Machine.{pick}
use Rattle.rules.specs.Numbers.{done}
use Rattle.rules.specs.State.{State, World, made, with_state}
use Rattle.rules.specs.Calls.{call_write, call_run, call_answer}
use Rattle.rules.specs.Lists.Found.{none}
use Rattle.rules.specs.Loaded.{bad_place, loaded}
use Rattle.promises_of_units.specs.Writes.{resets}

-- the five calls: write and read a register, run for an allowance, ask for a record, answer and run for an allowance
pub data Call : Type 0 where
  writes : ℕ → ℕ → Call
  reads : ℕ → Call
  runs : ℕ → Call
  records : ℕ → Call
  answers : Bool → ℕ → Call

-- the device and the memory after a call that is lent that memory
unfoldable pub after : Call → World → World
after (writes offset v) w = with_state (call_write w.state offset v).state w
after (reads offset) w = w
after (runs n) w = (call_run w n).world
after (records i) w = w
after (answers good n) w = (call_answer w good n).world

-- the units that a call reports
unfoldable pub units_of : Call → World → ℕ
units_of (writes offset v) w = 0
units_of (reads offset) w = 0
units_of (runs n) w = (call_run w n).units
units_of (records i) w = 0
units_of (answers good n) w = (call_answer w good n).units

-- the answer of the host that a call took, by the call's own answer
unfoldable pub taken_by : Call → World → List Bool
taken_by (writes offset v) w = []
taken_by (reads offset) w = []
taken_by (runs n) w = []
taken_by (records i) w = []
taken_by (answers good n) w = pick (eqb (call_answer w good n).answer done) (good ∷ []) []

-- calls over still memory: each is lent what the one before left
unfoldable pub after_all : List Call → World → World
after_all [] w = w
after_all (c ∷ cs) w = after_all cs (after c w)

unfoldable pub units_of_all : List Call → World → ℕ
units_of_all [] w = 0
units_of_all (c ∷ cs) w = units_of c w + units_of_all cs (after c w)

unfoldable pub taken_by_all : List Call → World → List Bool
taken_by_all [] w = []
taken_by_all (c ∷ cs) w = taken_by c w ++ taken_by_all cs (after c w)

-- a call that is a reset
abbrev pub is_reset : Call → Bool
is_reset (writes offset v) = resets offset v
is_reset (reads offset) = false
is_reset (runs n) = false
is_reset (records i) = false
is_reset (answers good n) = false

-- a device that was made, or loaded from a file that no rule refuses (02, wish 1), and called: any calls, each lent any memory at all. "Demands 2 and 3
-- read from the loaded state on": what was before a load plays no part, so a load between calls is one at the beginning.
pub data Called : State → Type 0 where
  makes : (memory : ℕ) → Called (made memory)
  loads : (b : List ℕ) → bad_place b ≡ none → Called (loaded b)
  calls : {s : State} (c : Call) (m : List ℕ) → Called s → Called (after c (record { state = s; mem = m })).state
