-- What happens to a device, in order: submissions settle, a ring is refused, the guest resets. The units of any run and any list of calls
-- come to such a list of events, each with what it needs to happen. Assumes nothing.
use Rattle.std.specs.Prelude.{◌≡◌, refl, Bool, true, false, List, [], ◌∷◌, ◌++◌, ℕ}
use Rattle.std.proofs.Common.{arith}
use Rattle.rules.specs.Numbers.{done}
use Rattle.rules.specs.Lists.{pushed}
use Rattle.rules.specs.Lists.Found.{none}
use Rattle.rules.specs.Judging.{Finding, without_place}
use Rattle.rules.specs.Judging.Finding.{fine, broken}
use Rattle.rules.specs.Packets.{Progress, Belongings, left_by}
use Rattle.rules.specs.State.{Work, State, World, made, with_regs, with_state, registering}
use Rattle.rules.specs.State.Work.{resting, entries, packets, waiting}
use Rattle.rules.specs.Registers.{bit_of, reset}
use Rattle.rules.specs.Steps.{go, run_for, waits_on, answered}
use Rattle.rules.specs.Calls.{lent_another, call_write, call_run, call_answer}
use Rattle.rules.specs.declared.Entry.{Entry}
use Rattle.rules.specs.declared.Job.{Job}
use Rattle.rules.specs.declared.Registers.{Registers}
use Rattle.rules.specs.Loaded.{bad_place, loaded}
use Rattle.rules.specs.declared.Refusal.TheVariants.{HostFailed}
use Rattle.promises_of_units.specs.Writes.{resets}
use Rattle.promises_of_units.specs.Called.{Call}
use Rattle.promises_of_units.specs.Called.Call.{writes, reads, runs, records, answers}
use Rattle.promises_of_units.specs.Units.{Unit}
use Rattle.promises_of_units.specs.Units.Unit.{works-on, finds-bad-ring, finds-no-work, settles}

pub data Event : Type 0 where
  -- a submission was settled with what was found; these resources and tokens were the submission's, where the host answered, and the device's before it,
  -- where a unit refused it; and this state stood after it
  settling : Job → Finding → Belongings → State → Event
  -- an opening found a bad ring
  ring_refusal : Event
  -- the guest reset the device
  resetting : Event

-- what a host's answer comes to: "An answer "failed" is error 27", which has no place
abbrev pub finding_of : Bool → Finding
finding_of true = fine
finding_of false = broken (without_place HostFailed)

-- the event of one unit, if it has one
abbrev pub events_of_unit : {w w' : World} → Unit w w' → List Event
events_of_unit (works-on next h) = []
events_of_unit (finds-bad-ring e h) = ring_refusal ∷ []
events_of_unit (finds-no-work e h) = []
events_of_unit {w} {w'} (settles j f h) = settling j (broken f) w.state.belongings w'.state ∷ []

-- units one after the other, each of a device that goes on, and their events
pub data Units : World → List Event → World → Type 0 where
  stop : {w : World} → Units w [] w
  one : {w w' w'' : World} {es : List Event} → go w ≡ true → (u : Unit w w') → Units w' es w'' → Units w (events_of_unit u ++ es) w''

-- one call and its events
pub data Happens (w : World) : Call → List Event → World → Type 0 where
  -- it is refused, or only asks
  refused-write : (offset v : ℕ) → ((call_write w.state offset v).answer ≡ done → ⊥) → Happens w (writes offset v) [] w
  refused-run : (n : ℕ) → ((call_run w n).answer ≡ done → ⊥) → Happens w (runs n) [] w
  refused-answer : (good : Bool) (n : ℕ) → ((call_answer w good n).answer ≡ done → ⊥) → Happens w (answers good n) [] w
  asks-register : (offset : ℕ) → Happens w (reads offset) [] w
  asks-record : (i : ℕ) → Happens w (records i) [] w
  -- registers are written, but not those that the device tells its fence and its error by
  changes-registers : (offset v : ℕ) (r : Registers) → resets offset v ≡ false → (call_write w.state offset v).state ≡ with_regs r w.state
      → r.completed ≡ w.state.regs.completed → r.error ≡ w.state.regs.error → Happens w (writes offset v) [] (registering r w)
  -- a reset
  resets-all : (offset v : ℕ) → resets offset v ≡ true → (call_write w.state offset v).state ≡ reset (bit_of 0 v) w.state
      → Happens w (writes offset v) (resetting ∷ []) (with_state (reset (bit_of 0 v) w.state) w)
  -- memory of the right length is lent, and units are spent
  spends : (n : ℕ) {es : List Event} → lent_another w ≡ false → Units w es (run_for n w).state → Happens w (runs n) es (run_for n w).state
  -- the submission that waits is answered, and settled with the host's word; then units are spent
  settles-answered : (good : Bool) (n : ℕ) (j : Job) (es : List Entry) (h : Progress) {fs : List Event} → lent_another w ≡ false → w.state.work ≡ waiting j es h
      → Units (answered good w) fs (run_for n (answered good w)).state
      → Happens w (answers good n) (settling j (finding_of good) (left_by h) (answered good w).state ∷ fs) (run_for n (answered good w)).state

-- calls one after the other over still memory, and their events
pub data History : World → List Call → List Event → World → Type 0 where
  no_call : {w : World} → History w [] [] w
  next_call : {w w' w'' : World} {c : Call} {cs : List Call} {es fs : List Event} → Happens w c es w' → History w' cs fs w'' → History w (c ∷ cs) (es ++ fs) w''

-- calls one after the other, each lent any memory at all, and their events
pub data Life (s : State) : List Call → List Event → State → Type 0 where
  begins : Life s [] [] s
  lives : {t : State} {w' : World} {c : Call} {cs : List Call} {es fs : List Event}
      → Life s cs es t → (m : List ℕ) → Happens (record { state = t; mem = m }) c fs w' → Life s (pushed cs c) (es ++ fs) w'.state

-- ---- there are such events, of each run and of any calls

-- a device that waits has a submission that waits
pub waits-for : (k : Work) → waits_on k ≡ true → (j : Job) × (es : List Entry) × (h : Progress) × (k ≡ waiting j es h)
waits-for resting e = absurd (let z : ◌≡◌ {A = ℕ} 0 1 = cc in omega arith)
waits-for (entries o kept) e = absurd (let z : ◌≡◌ {A = ℕ} 0 1 = cc in omega arith)
waits-for (packets j s at es h) e = absurd (let z : ◌≡◌ {A = ℕ} 0 1 = cc in omega arith)
waits-for (waiting j es h) e = (j, es, h, refl)

-- a device as it was made, or as it was loaded
pub data Begun : State → Type 0 where
  was_made : (memory : ℕ) → Begun (made memory)
  was_loaded : (b : List ℕ) → bad_place b ≡ none → Begun (loaded b)
