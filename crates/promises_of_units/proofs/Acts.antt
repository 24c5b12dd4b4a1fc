-- The theorems of specs/Acts.antt, and what they rest on. Assumes nothing.
use Rattle.std.specs.Prelude.{◌≡◌, refl, Bool, true, false, List, [], ◌∷◌, eqb}
use Rattle.std.proofs.Common.{sym, ap, subst, ◌∙◌}
use Rattle.machine.specs.Machine.{pick}
use Rattle.rules.specs.Numbers.{done}
use Rattle.rules.specs.State.{State, World, with_state}
use Rattle.rules.specs.Steps.{run_for, answered}
use Rattle.rules.specs.Calls.{Ran, call_run, call_answer}
use Rattle.promises_of_packets.specs.Held.{Every}
use Rattle.promises_of_units.specs.Writes.{write-is-by-registers}
use Rattle.promises_of_units.specs.Runs.{of-run, of-answer}
use Rattle.promises_of_units.specs.Called.{Call, after, units_of, taken_by, after_all, units_of_all, taken_by_all, is_reset}
use Rattle.promises_of_units.specs.Called.Call.{writes, reads, runs, records, answers}
use Rattle.promises_of_units.specs.Acts.{Led, NoReset, acts_of, acts_of_all, answer_acts, answers-in-both, answers_in, in_a_row, led_on, row-answers, row-units, run_leads, units-in-both, units_in}
use Rattle.promises_of_units.specs.Acts.Act.{answer, write}
use Rattle.promises_of_units.specs.Acts.Led.{stays, takes, writes_one}

-- ---- acts and what the calls report

call-units : (c : Call) (w : World) → units_in (acts_of c w) ≡ units_of c w
unfolding units_in acts_of units_of
call-units (writes offset v) w = refl
call-units (reads offset) w = refl
call-units (runs n) w = row-units (call_run w n).units
call-units (records i) w = refl
call-units (answers good n) w =
    of-answer (λ (r : Ran). units_in (answer_acts good r) ≡ r.units) w good n (λ e. refl) (λ e f. refl) (λ e f. row-units (run_for n (answered good w)).units)

call-answers : (c : Call) (w : World) → answers_in (acts_of c w) ≡ taken_by c w
unfolding answers_in acts_of taken_by
call-answers (writes offset v) w = refl
call-answers (reads offset) w = refl
call-answers (runs n) w = row-answers (call_run w n).units
call-answers (records i) w = refl
call-answers (answers good n) w = by_test (eqb (call_answer w good n).answer done)
  where
    by_test : (b : Bool) → answers_in (pick b (answer good ∷ in_a_row (call_answer w good n).units) []) ≡ pick b (good ∷ []) []
    by_test true = ap (λ l. good ∷ l) (row-answers (call_answer w good n).units)
    by_test false = refl

-- the units of calls' acts are those that the calls report
pub acts-units : (cs : List Call) (w : World) → units_in (acts_of_all cs w) ≡ units_of_all cs w
unfolding acts_of_all units_of_all units_in
acts-units [] w = refl
acts-units (c ∷ cs) w = units-in-both (acts_of c w) (acts_of_all cs (after c w)) ∙ rw (call-units c w, acts-units cs (after c w))

-- and the answers are those that they took
pub acts-answers : (cs : List Call) (w : World) → answers_in (acts_of_all cs w) ≡ taken_by_all cs w
unfolding acts_of_all taken_by_all answers_in
acts-answers [] w = refl
acts-answers (c ∷ cs) w = answers-in-both (acts_of c w) (acts_of_all cs (after c w)) ∙ rw (call-answers c w, acts-answers cs (after c w))

-- ---- where acts lead

call_leads : (c : Call) (w : World) → is_reset c ≡ false → Led w (acts_of c w) (after c w)
unfolding acts_of after in_a_row
call_leads (writes offset v) w n =
    subst (λ (s : State). Led w (write offset v ∷ []) (with_state s w)) (sym (write-is-by-registers w.state offset v n)) (writes_one offset v n stays)
call_leads (reads offset) w n = stays
call_leads (runs k) w n = of-run (λ (r : Ran). Led w (in_a_row r.units) r.world) w k (λ e. stays) (λ e. run_leads k w)
call_leads (records i) w n = stays
call_leads (answers good k) w n =
    of-answer (λ (r : Ran). Led w (answer_acts good r) r.world) w good k (λ e. stays) (λ e f. stays) (λ e f. takes good f (run_leads k (answered good w)))

-- calls of which none is a reset lead where their acts lead
pub calls_lead : (cs : List Call) (w : World) → NoReset cs → Led w (acts_of_all cs w) (after_all cs w)
unfolding acts_of_all after_all Every
calls_lead [] w n = stays
calls_lead (c ∷ cs) w n = led_on (call_leads c w n.0) (calls_lead cs (after c w) n.1)
