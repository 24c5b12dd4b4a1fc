-- The theorems of specs/Events.antt, and what they rest on. Assumes nothing.
use Rattle.std.specs.Prelude.{◌≡◌, refl, Bool, true, false, List, [], ◌∷◌, ◌++◌, ℕ, zero, suc}
use Rattle.std.proofs.Common.{ap, subst, ◌∙◌, arith}
use Rattle.machine.specs.Machine.{run_none, run-stop, run-go}
use Rattle.rules.specs.Lists.{Found, pushed}
use Rattle.rules.specs.Lists.Found.{none, found}
use Rattle.rules.specs.Packets.{Progress, left_by}
use Rattle.rules.specs.State.{State, World, made, with_state}
use Rattle.rules.specs.State.Work.{waiting}
use Rattle.rules.specs.Registers.{Write, write_of}
use Rattle.rules.specs.Steps.{step, go, run_for, waits_on, waits, answered}
use Rattle.rules.specs.Calls.{lent_another, wrote, call_write, Ran, call_run, call_answer}
use Rattle.rules.specs.declared.Entry.{Entry}
use Rattle.rules.specs.declared.Job.{Job}
use Rattle.rules.specs.Loaded.{loaded}
use Rattle.promises_of_units.specs.Writes.{Written, write-keeps-or-drops}
use Rattle.promises_of_units.specs.Writes.Written.{keeps, drops}
use Rattle.promises_of_units.specs.Runs.{of-run, of-answer, taken-and-run}
use Rattle.promises_of_units.specs.Refused.{refused-run-changes-nothing, refused-answer-changes-nothing, refused-write-changes-nothing}
use Rattle.promises_of_units.specs.Called.{Call, after, after_all, Called}
use Rattle.promises_of_units.specs.Called.Called.{makes, loads, calls}
use Rattle.promises_of_units.specs.Called.Call.{writes, reads, runs, records, answers}
use Rattle.promises_of_units.proofs.Units.{unit}
use Rattle.promises_of_units.specs.Events.{Begun, Event, Happens, History, Life, Units, events_of_unit, waits-for}
use Rattle.promises_of_units.specs.Events.Begun.{was_loaded, was_made}
use Rattle.promises_of_units.specs.Events.Event.{resetting}
use Rattle.promises_of_units.specs.Events.Happens.{asks-record, asks-register, changes-registers, refused-answer, refused-run, refused-write, resets-all, settles-answered, spends}
use Rattle.promises_of_units.specs.Events.History.{next_call, no_call}
use Rattle.promises_of_units.specs.Events.Life.{begins, lives}
use Rattle.promises_of_units.specs.Events.Units.{one, stop}

-- ---- there are such events, of each run and of any calls

pub run-has-events : (n : ℕ) (w : World) → (es : List Event) × Units w es (run_for n w).state
run-has-events zero w = ([], rw (run_none go step w) stop)
run-has-events (suc n) w = by_test (go w) refl (run-has-events n (step w))
  where
    by_test : (b : Bool) → go w ≡ b → ((es : List Event) × Units (step w) es (run_for n (step w)).state) → (es : List Event) × Units w es (run_for (suc n) w).state
    by_test true g q = (events_of_unit (unit w) ++ q.0, rw (run-go go step n w g) (one g (unit w) q.1))
    by_test false g q = ([], rw (run-stop go step (suc n) w g) stop)

write-has-events : (offset v : ℕ) (w : World) → (es : List Event) × Happens w (writes offset v) es (with_state (call_write w.state offset v).state w)
unfolding call_write
write-has-events offset v w = by_found (write_of w.state offset v) refl (write-keeps-or-drops w.state offset v)
  where
    by_written : (s : State) → (call_write w.state offset v).state ≡ s → Written w.state offset v s
        → (es : List Event) × Happens w (writes offset v) es (with_state s w)
    by_written s q (keeps r n c e) = ([], changes-registers offset v r n q c e)
    by_written s q (drops h) = (resetting ∷ [], resets-all offset v h q)

    by_found : (f : Found Write) → write_of w.state offset v ≡ f → Written w.state offset v (wrote w.state (write_of w.state offset v)).state
        → (es : List Event) × Happens w (writes offset v) es (with_state (wrote w.state f).state w)
    by_found none e k = ([], refused-write offset v (λ d. absurd (let z : ◌≡◌ {A = ℕ} 0 1 = cc in omega arith)))
    by_found (found x) e k =
        by_written x.state (ap (λ f. (wrote w.state f).state) e) (subst (λ f. Written w.state offset v (wrote w.state f).state) e k)

run-call-has-events : (n : ℕ) (w : World) → (es : List Event) × Happens w (runs n) es (call_run w n).world
run-call-has-events n w =
    of-run (λ (r : Ran). (call_run w n).answer ≡ r.answer → (es : List Event) × Happens w (runs n) es r.world) w n
    (λ e a. ([], refused-run n (λ d. absurd (omega arith)))) (λ e a. let q : (es : List Event) × Units w es (run_for n w).state = run-has-events n w in (q.0, spends n e q.1)) refl

answer-call-has-events : (good : Bool) (n : ℕ) (w : World) → (es : List Event) × Happens w (answers good n) es (call_answer w good n).world
answer-call-has-events good n w =
    of-answer (λ (r : Ran). (call_answer w good n).answer ≡ r.answer → (es : List Event) × Happens w (answers good n) es r.world) w good n
    (λ e a. ([], refused-answer good n (λ d. absurd (omega arith)))) (λ e f a. ([], refused-answer good n (λ d. absurd (omega arith)))) (λ e f a. taken e f) refl
  where
    taken : lent_another w ≡ false → waits w.state ≡ true → (es : List Event) × Happens w (answers good n) es (run_for n (answered good w)).state
    taken e f =
        let its : (j : Job) × (es : List Entry) × (h : Progress) × (w.state.work ≡ waiting j es h) = waits-for w.state.work f in
        let later : (es : List Event) × Units (answered good w) es (run_for n (answered good w)).state = run-has-events n (answered good w) in
        (_, settles-answered good n its.0 its.1 its.2 e its.3 later.1)

pub call-has-events : (c : Call) (w : World) → (es : List Event) × Happens w c es (after c w)
unfolding after
call-has-events (writes offset v) w = write-has-events offset v w
call-has-events (reads offset) w = ([], asks-register offset)
call-has-events (runs n) w = run-call-has-events n w
call-has-events (records i) w = ([], asks-record i)
call-has-events (answers good n) w = answer-call-has-events good n w

pub calls-have-events : (cs : List Call) (w : World) → (es : List Event) × History w cs es (after_all cs w)
unfolding after_all
calls-have-events [] w = ([], no_call)
calls-have-events (c ∷ cs) w =
    let here : (es : List Event) × Happens w c es (after c w) = call-has-events c w in
    let later : (es : List Event) × History (after c w) cs es (after_all cs (after c w)) = calls-have-events cs (after c w) in
    (here.0 ++ later.0, next_call here.1 later.1)

pub called-has-life : (s : State) → Called s → (first : State) × Begun first × (cs : List Call) × (es : List Event) × Life first cs es s
called-has-life s (makes memory) = (made memory, was_made memory, [], [], begins)
called-has-life s (loads b good) = (loaded b, was_loaded b good, [], [], begins)
called-has-life s (calls {s = t} c m k) =
    let before : (first : State) × Begun first × (cs : List Call) × (es : List Event) × Life first cs es t = called-has-life t k in
    let here : (es : List Event) × Happens (record { state = t; mem = m }) c es (after c (record { state = t; mem = m })) = call-has-events c (record { state = t; mem = m }) in
    (before.0, before.1, pushed before.2 c, before.3 ++ here.0, lives before.4 m here.1)

-- ---- and they are the events of these calls alone

pub happens-is-after : (w : World) (c : Call) (es : List Event) (w' : World) → Happens w c es w' → after c w ≡ w'
unfolding after
happens-is-after w c es w' (refused-write offset v h) = ap (λ s. with_state s w) (refused-write-changes-nothing w.state offset v h)
happens-is-after w c es w' (refused-run n h) = refused-run-changes-nothing w n h
happens-is-after w c es w' (refused-answer good n h) = refused-answer-changes-nothing w good n h
happens-is-after w c es w' (asks-register offset) = refl
happens-is-after w c es w' (asks-record i) = refl
happens-is-after w c es w' (changes-registers offset v r n q d e) = ap (λ s. with_state s w) q
happens-is-after w c es w' (resets-all offset v h q) = ap (λ s. with_state s w) q
happens-is-after w c es w' (spends n e u) =
    of-run (λ (r : Ran). r.world ≡ (run_for n w).state) w n (λ l. absurd (let z : ◌≡◌ {A = ℕ} 0 1 = cc in omega arith)) (λ l. refl)
happens-is-after w c es w' (settles-answered good n j table h e f u) = ap (λ (r : Ran). r.world) (taken-and-run w good n e (ap waits_on f))

pub history-is-after-all : (w : World) (cs : List Call) (es : List Event) (w' : World) → History w cs es w' → after_all cs w ≡ w'
unfolding after_all
history-is-after-all w cs es w' no_call = refl
history-is-after-all w cs es w' (next_call {w' = v} {c = c} {cs = ks} {es = here} {fs = later} d q) =
    ap (after_all ks) (happens-is-after w c here v d) ∙ history-is-after-all v ks later w' q
