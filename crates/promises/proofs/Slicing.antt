-- The theorems of specs/Slicing.antt, and what they rest on. Assumes nothing.
use Rattle.std.specs.Prelude.{◌≡◌, refl, Bool, true, false, List, [], ◌∷◌, ℕ, eqb}
use Rattle.std.proofs.Common.{sym, subst, ◌∙◌, arith}
use Rattle.machine.specs.Machine.{pick}
use Rattle.rules.specs.Numbers.{done}
use Rattle.rules.specs.State.{World}
use Rattle.rules.specs.Steps.{answered}
use Rattle.rules.specs.Calls.{call_run, call_answer}
use Rattle.promises_of_packets.specs.Held.{Every}
use Rattle.promises_of_submissions.specs.Slices.{waiting-stands-still}
use Rattle.promises_of_units.specs.Called.{Call, after, after_all, units_of_all, taken_by_all}
use Rattle.promises_of_units.specs.Called.Call.{writes, reads, runs, records, answers}
use Rattle.promises_of_units.specs.Acts.{Act, in_a_row, acts_of, acts_of_all, units_in, answers_in, Led}
use Rattle.promises_of_units.proofs.Acts.{acts-units, acts-answers, calls_lead}
use Rattle.promises_of_units.specs.Acts.Act.{answer}
use Rattle.promises_of_units.specs.Acts.Led.{stays, spends, writes_one, takes}
use Rattle.promises.specs.Slicing.{NoWrite, Unwritten, both-unwritten, is_write, no-write-no-reset, row-unwritten}

-- ---- no register is written

call-unwritten : (c : Call) (w : World) → is_write c ≡ false → Unwritten (acts_of c w)
unfolding Every acts_of
call-unwritten (writes offset v) w h = absurd (let z : ◌≡◌ {A = ℕ} 0 1 = cc in omega arith)
call-unwritten (reads offset) w h = omega arith
call-unwritten (runs n) w h = row-unwritten (call_run w n).units
call-unwritten (records i) w h = omega arith
call-unwritten (answers good n) w h = by_test (eqb (call_answer w good n).answer done)
  where
    by_test : (b : Bool) → Unwritten (pick b (answer good ∷ in_a_row (call_answer w good n).units) [])
    by_test true = (refl, row-unwritten (call_answer w good n).units)
    by_test false = omega arith

calls-unwritten : (cs : List Call) (w : World) → NoWrite cs → Unwritten (acts_of_all cs w)
unfolding Every acts_of_all
calls-unwritten [] w h = omega arith
calls-unwritten (c ∷ cs) w h =
    both-unwritten (acts_of c w) (acts_of_all cs (after c w)) (call-unwritten c w h.0) (calls-unwritten cs (after c w) h.1)

-- ---- units and answers lead to one world

-- a unit is due only where no answer is awaited
led-alike : {w u v : World} {xs ys : List Act} → Led w xs u → Led w ys v → Unwritten xs → Unwritten ys → units_in xs ≡ units_in ys
    → answers_in xs ≡ answers_in ys → u ≡ v
unfolding Every units_in answers_in
led-alike stays stays n k e a = refl
led-alike stays (spends h q) n k e a = absurd (omega arith)
led-alike stays (takes good h q) n k e a = absurd (let z : ◌≡◌ {A = ℕ} 0 1 = cc in omega arith)
led-alike stays (writes_one offset v h q) n k e a = absurd (let f : true ≡ false = k.0 in let z : ◌≡◌ {A = ℕ} 0 1 = cc in omega arith)
led-alike (spends g p) stays n k e a = absurd (omega arith)
led-alike (spends g p) (spends h q) n k e a = led-alike p q n.1 k.1 (omega arith) a
led-alike {w = w} (spends g p) (takes good h q) n k e a =
    let f : true ≡ false = sym g ∙ waiting-stands-still w h in
    absurd (let z : ◌≡◌ {A = ℕ} 0 1 = cc in omega arith)
led-alike (spends g p) (writes_one offset v h q) n k e a = absurd (let f : true ≡ false = k.0 in let z : ◌≡◌ {A = ℕ} 0 1 = cc in omega arith)
led-alike (takes good g p) stays n k e a = absurd (let z : ◌≡◌ {A = ℕ} 0 1 = cc in omega arith)
led-alike {w = w} (takes good g p) (spends h q) n k e a =
    let f : true ≡ false = sym h ∙ waiting-stands-still w g in
    absurd (let z : ◌≡◌ {A = ℕ} 0 1 = cc in omega arith)
led-alike {w = w} {v = v} (takes {xs = xs} good g p) (takes {xs = ys} same h q) n k e a =
    let one : good ≡ same = cc in
    let later : answers_in xs ≡ answers_in ys = cc in
    led-alike p (subst (λ b. Led (answered b w) ys v) (sym one) q) n.1 k.1 e later
led-alike (takes good g p) (writes_one offset v h q) n k e a = absurd (let f : true ≡ false = k.0 in let z : ◌≡◌ {A = ℕ} 0 1 = cc in omega arith)
led-alike (writes_one offset v g p) q n k e a = absurd (let f : true ≡ false = n.0 in let z : ◌≡◌ {A = ℕ} 0 1 = cc in omega arith)

-- two lists of calls from one device and one memory that report the same units and had the same answers taken stand in the same state with
-- the same memory
pub same-units-same-answers : (cs ds : List Call) (w : World) → NoWrite cs → NoWrite ds → units_of_all cs w ≡ units_of_all ds w
    → taken_by_all cs w ≡ taken_by_all ds w → after_all cs w ≡ after_all ds w
same-units-same-answers cs ds w n k u a =
    led-alike (calls_lead cs w (no-write-no-reset cs n)) (calls_lead ds w (no-write-no-reset ds k)) (calls-unwritten cs w n)
    (calls-unwritten ds w k) (acts-units cs w ∙ (u ∙ sym (acts-units ds w))) (acts-answers cs w ∙ (a ∙ sym (acts-answers ds w)))
