-- A layer of calls: what a host holds of a device, how a call's reply is said to it, and which calls were really made, by their contracts.
-- Every theorem about the calls of a host is said once, over any layer. Assumes nothing.
use Rattle.std.specs.Prelude.{◌≡◌, Bool, List, [], ◌∷◌, ℕ, eqb}
use Rattle.machine.specs.Machine.{pick}
use Rattle.rules.specs.Numbers.{done}
use Rattle.rules.specs.State.{State, World, made}
use Rattle.rules.specs.Calls.{RecordRead, call_answer}
use Rattle.rules.specs.Lists.Found.{none}
use Rattle.rules.specs.Loaded.{bad_place, loaded}
use Rattle.promises_of_units.specs.Called.{Call, after}
use Rattle.promises_of_units.specs.Called.Call.{writes, reads, runs, records, answers}
use Rattle.promises_of_units.specs.Replies.{Reply, reply_to}
use Rattle.promises_of_submissions.specs.Locality.{lent}

-- ---- what a call took

-- the host's answer that a call took, by the number that the call answered
abbrev pub taken_in : Call → ℕ → List Bool
taken_in (writes offset v) a = []
taken_in (reads offset) a = []
taken_in (runs n) a = []
taken_in (records i) a = []
taken_in (answers good n) a = pick (eqb a done) (good ∷ []) []

-- ---- layers

pub record Layer : Type 1 where
  -- what a host holds of a device, and the state that it means
  pub Device : Type 0
  pub state : Device → State
  -- what a call hands back beside it, and how the layer says a reply
  pub Said : Type 0
  pub said : Call → Reply → Said
  -- what a host reads there: the units that a call spent, what an answer call answered, what a record call handed out
  pub units : Call → Said → ℕ
  pub answered : Said → ℕ
  pub record_read : Said → RecordRead
  -- this device was made for a memory of so many bytes
  pub Makes : ℕ → Device → Type 0
  -- this device is what a load of this file left, and the load answered 0
  pub Loads : List ℕ → Device → Type 0
  -- this call was made of a device that was lent a memory: what it said, and the device and the memory that it left
  pub Gives : Device → List ℕ → Call → Said → Device → List ℕ → Type 0
  -- and so the contracts say of each what the rules say
  pub units-read : (c : Call) (w : World) → units c (said c (reply_to c w)) ≡ (reply_to c w).units
  pub answered-as : (good : Bool) (n : ℕ) (w : World) → answered (said (answers good n) (reply_to (answers good n) w)) ≡ (call_answer w good n).answer
  pub record-read-as : (i : ℕ) (r : Reply) → record_read (said (records i) r) ≡ record { answer = r.answer; range = r.range }
  pub makes-made : (memory : ℕ) (d : Device) → Makes memory d → state d ≡ made memory
  pub loads-loaded : (b : List ℕ) (d : Device) → Loads b d → (bad_place b ≡ none) × (state d ≡ loaded b)
  pub gives-reply : (d : Device) (m : List ℕ) (c : Call) (x : Said) (d' : Device) (m' : List ℕ) → Gives d m c x d' m' → x ≡ said c (reply_to c (lent (state d) m))
  pub gives-world : (d : Device) (m : List ℕ) (c : Call) (x : Said) (d' : Device) (m' : List ℕ) → Gives d m c x d' m' → lent (state d') m' ≡ after c (lent (state d) m)

-- the device and the memory beside it, as the rules' world
abbrev pub standing : (L : Layer) → L.Device → List ℕ → World
standing L d m = lent (L.state d) m
