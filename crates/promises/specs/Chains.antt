-- Where a device can stand after calls, in terms of the unsliced rules: the words of the theorems in ChainsStand.antt. Acts are given in
-- their order, so each write is known to come before, during or after a submission. Assumes nothing.
use Rattle.std.specs.Prelude.{◌≡◌, Bool, true, false, List, [], ◌∷◌, ◌++◌, ℕ, suc, ◌+◌, ◌<◌}
use Rattle.machine.specs.Machine.{Out}
use Rattle.rules.specs.Ring.{opening_of}
use Rattle.rules.specs.State.{World, working, registering}
use Rattle.rules.specs.State.Work.{resting}
use Rattle.rules.specs.Steps.{step, go, waits, answered}
use Rattle.rules.specs.Unsliced.{submitted_on, submitted}
use Rattle.rules.specs.declared.Registers.{Registers}
use Rattle.promises_of_submissions.specs.Whole.{midst, Course}
use Rattle.promises_of_units.specs.Writes.{resets, registers_written}
use Rattle.promises_of_submissions.specs.Night.{Clear}
use Rattle.promises_of_units.specs.Acts.{Act, units_in, answers_in, registers_after}
use Rattle.promises_of_units.specs.Acts.Act.{unit, write, answer}

-- what the unsliced rules give of a submission that is opened with w's registers and settled with the registers q
abbrev pub submitted_under : Registers → World → Out World
submitted_under q w = submitted_on (registering q w) (opening_of w.mem w.state.regs.ring w.state.regs.ringsize)

-- units, and writes between them; the last is a unit
pub data Span : List Act → Type 0 where
  last : Span (unit ∷ [])
  spending : {xs : List Act} → Span xs → Span (unit ∷ xs)
  writing : {xs : List Act} (offset n : ℕ) → resets offset n ≡ false → Span xs → Span (write offset n ∷ xs)

-- from w, in the midst of a submission, these acts lead to v, in the midst of the same one
pub record Into (w : World) (xs : List Act) (v : World) : Type 0 where
  pub takes-nothing : answers_in xs ≡ []
  pub inside : midst v.state.work ≡ true
  -- with any registers that enable, one run of as many units does the same work
  pub units : (q : Registers) → q.enabled ≡ true → Course (units_in xs) (registering q w) (registering q v)
  -- memory, resources and tokens stay, and the registers are what the writes made of them
  pub only : v ≡ registering (registers_after xs w.state.regs) (working v.state.work w)

-- from w, these acts lead to v, the end of what was in the midst at w
pub data Rest (w : World) : List Act → World → Type 0 where
  -- nothing was
  none_left : Clear w → Rest w [] w
  -- it ends where one run of as many units ends with the registers that stand at the last unit
  ends : {xs : List Act} {v : World} → midst w.state.work ≡ true → Span xs → (registers_after xs w.state.regs).enabled ≡ true
      → Course (units_in xs) (registering (registers_after xs w.state.regs) w) v → Clear v → Rest w xs v

-- whole submissions of the unsliced rules, and writes and answers between them, lead from w to v
pub data Served : World → List Act → World → Type 0 where
  begun : {w : World} → Served w [] w
  -- from its opening at w to its last unit, with writes between its units: the unsliced rules' end, settled with the registers that
  -- stand at the last unit, after the unsliced rules' count of units
  submission : {w v : World} {during xs : List Act} → w.state.work ≡ resting → go w ≡ true → Span (unit ∷ during)
      → (registers_after during w.state.regs).enabled ≡ true
      → suc (units_in during) ≡ (submitted_under (registers_after during w.state.regs) w).units
      → Served (submitted_under (registers_after during w.state.regs) w).state xs v → Served w ((unit ∷ during) ++ xs) v
  -- a write between submissions changes registers alone
  written : {w v : World} {xs : List Act} (offset n : ℕ) → Clear w → resets offset n ≡ false
      → Served (registering (registers_written offset n w.state.regs) w) xs v → Served w (write offset n ∷ xs) v
  -- an answer to a submission that waits
  answers : {w v : World} {xs : List Act} (good : Bool) → waits w.state ≡ true → Served (answered good w) xs v → Served w (answer good ∷ xs) v

-- from w, these acts lead to v, some units into the next submission
pub data Next (w : World) : List Act → World → Type 0 where
  none_begun : Next w [] w
  -- it was opened at w, which changed nothing but the work, and it is not through: the unsliced rules count more units
  opened : {xs : List Act} {v : World} → w.state.work ≡ resting → go w ≡ true → step w ≡ working (step w).state.work w → Into (step w) xs v
      → suc (units_in xs) < (submitted w).units → Next w (unit ∷ xs) v

-- from any w these acts lead to v: in the midst of what was in work at w; or past its end, through whole submissions, some way into the next
pub data Stands (w : World) (xs : List Act) (v : World) : Type 0 where
  in-the-first : midst w.state.work ≡ true → Into w xs v → Stands w xs v
  past-the-first : {x y : World} {first night next : List Act} → xs ≡ first ++ (night ++ next) → Rest w first x → Served x night y
      → Next y next v → Stands w xs v

-- ---- what whole submissions count and take

-- the units that the unsliced rules count
unfoldable pub counted : {w v : World} {xs : List Act} → Served w xs v → ℕ
counted begun = 0
counted (submission {w = w} {during = during} rest g s on n later) = (submitted_under (registers_after during w.state.regs) w).units + counted later
counted (written offset n c h later) = counted later
counted (answers good h later) = counted later

-- the answers that were given
unfoldable pub given : {w v : World} {xs : List Act} → Served w xs v → List Bool
given begun = []
given (submission rest g s on n later) = given later
given (written offset n c h later) = given later
given (answers good h later) = good ∷ given later
