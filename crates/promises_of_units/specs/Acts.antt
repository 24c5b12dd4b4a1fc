-- What calls do to a device, act by act: a unit is spent, a register is written, an answer is taken. A refused call, a read and a record
-- are no act. Calls of which none resets lead where their acts lead. Assumes nothing.
use Rattle.std.specs.Prelude.{◌≡◌, refl, Bool, true, false, List, [], ◌∷◌, ◌++◌, ℕ, zero, suc, ◌+◌, eqb}
use Rattle.std.proofs.Common.{sym, ap, ◌∙◌, zero-add, suc-add, one-add}
use Rattle.machine.specs.Machine.{pick, run_none, run-stop, run-go}
use Rattle.rules.specs.Numbers.{done}
use Rattle.rules.specs.State.{World, registering}
use Rattle.rules.specs.Steps.{step, go, run_for, waits, answered}
use Rattle.rules.specs.Calls.{Ran, call_run, call_answer}
use Rattle.rules.specs.declared.Registers.{Registers}
use Rattle.promises_of_packets.specs.Held.{Every}
use Rattle.promises_of_units.specs.Writes.{resets, registers_written}
use Rattle.promises_of_units.specs.Called.{Call, after, is_reset}
use Rattle.promises_of_units.specs.Called.Call.{writes, reads, runs, records, answers}

-- one act of a device: a unit, a register written with a number, an answer taken
pub data Act : Type 0 where
  unit : Act
  write : ℕ → ℕ → Act
  answer : Bool → Act

-- n units, one after the other
unfoldable pub in_a_row : ℕ → List Act
in_a_row zero = []
in_a_row (suc n) = unit ∷ in_a_row n

-- an answer that is taken, and the units after it
abbrev pub answer_acts : Bool → Ran → List Act
answer_acts good r = pick (eqb r.answer done) (answer good ∷ in_a_row r.units) []

-- the acts of one call: the register that it writes, the answer that it takes, then the units that it reports
unfoldable pub acts_of : Call → World → List Act
acts_of (writes offset v) w = write offset v ∷ []
acts_of (reads offset) w = []
acts_of (runs n) w = in_a_row (call_run w n).units
acts_of (records i) w = []
acts_of (answers good n) w = answer_acts good (call_answer w good n)

-- and of calls one after the other, each lent what the one before left
unfoldable pub acts_of_all : List Call → World → List Act
acts_of_all [] w = []
acts_of_all (c ∷ cs) w = acts_of c w ++ acts_of_all cs (after c w)

-- ---- what acts come to

-- the units among them
unfoldable pub units_in : List Act → ℕ
units_in [] = 0
units_in (unit ∷ xs) = suc (units_in xs)
units_in (write offset v ∷ xs) = units_in xs
units_in (answer good ∷ xs) = units_in xs

-- the answers among them, in order
unfoldable pub answers_in : List Act → List Bool
answers_in [] = []
answers_in (unit ∷ xs) = answers_in xs
answers_in (write offset v ∷ xs) = answers_in xs
answers_in (answer good ∷ xs) = good ∷ answers_in xs

-- what their writes make of the registers
unfoldable pub registers_after : List Act → Registers → Registers
registers_after [] r = r
registers_after (unit ∷ xs) r = registers_after xs r
registers_after (write offset v ∷ xs) r = registers_after xs (registers_written offset v r)
registers_after (answer good ∷ xs) r = registers_after xs r

-- the units of some acts and then others are the sum
pub units-in-both : (xs ys : List Act) → units_in (xs ++ ys) ≡ units_in xs + units_in ys
unfolding units_in
units-in-both [] ys = sym (zero-add (units_in ys))
units-in-both (unit ∷ xs) ys = ap suc (units-in-both xs ys) ∙ sym (suc-add (units_in xs) (units_in ys))
units-in-both (write offset v ∷ xs) ys = units-in-both xs ys
units-in-both (answer good ∷ xs) ys = units-in-both xs ys

-- and the answers are those of the first and then those of the others
pub answers-in-both : (xs ys : List Act) → answers_in (xs ++ ys) ≡ answers_in xs ++ answers_in ys
unfolding answers_in
answers-in-both [] ys = refl
answers-in-both (unit ∷ xs) ys = answers-in-both xs ys
answers-in-both (write offset v ∷ xs) ys = answers-in-both xs ys
answers-in-both (answer good ∷ xs) ys = ap (λ l. good ∷ l) (answers-in-both xs ys)

-- ---- acts and what the calls report

pub row-units : (n : ℕ) → units_in (in_a_row n) ≡ n
unfolding units_in in_a_row
row-units zero = refl
row-units (suc n) = ap suc (row-units n)

pub row-answers : (n : ℕ) → answers_in (in_a_row n) ≡ []
unfolding answers_in in_a_row
row-answers zero = refl
row-answers (suc n) = row-answers n

-- ---- where acts lead

-- each act only where it can be: a unit where one is due, an answer where one is awaited; no write is a reset
pub data Led : World → List Act → World → Type 0 where
  stays : {w : World} → Led w [] w
  spends : {w v : World} {xs : List Act} → go w ≡ true → Led (step w) xs v → Led w (unit ∷ xs) v
  writes_one : {w v : World} {xs : List Act} (offset n : ℕ) → resets offset n ≡ false
      → Led (registering (registers_written offset n w.state.regs) w) xs v → Led w (write offset n ∷ xs) v
  takes : {w v : World} {xs : List Act} (good : Bool) → waits w.state ≡ true → Led (answered good w) xs v → Led w (answer good ∷ xs) v

pub led_on : {w x v : World} {xs ys : List Act} → Led w xs x → Led x ys v → Led w (xs ++ ys) v
led_on stays q = q
led_on (spends g p) q = spends g (led_on p q)
led_on (writes_one offset n h p) q = writes_one offset n h (led_on p q)
led_on (takes good h p) q = takes good h (led_on p q)

pub run_leads : (n : ℕ) (w : World) → Led w (in_a_row (run_for n w).units) (run_for n w).state
unfolding in_a_row
run_leads zero w = rw (run_none go step w) stays
run_leads (suc n) w = by_test (go w) refl (run_leads n (step w))
  where
    by_test : (b : Bool) → go w ≡ b → Led (step w) (in_a_row (run_for n (step w)).units) (run_for n (step w)).state
        → Led w (in_a_row (run_for (suc n) w).units) (run_for (suc n) w).state
    by_test true g later = rw (run-go go step n w g, one-add) (spends g later)
    by_test false g later = rw (run-stop go step (suc n) w g) stays

-- none of some calls is a reset
abbrev pub NoReset : List Call → Type 0
NoReset = Every (λ (c : Call). is_reset c ≡ false)
