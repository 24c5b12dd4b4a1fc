-- What is handed out lies in memory: every entry that is kept ends within the memory's length, so every range of a device that waits
-- does. A new device has it and every call keeps it, whatever bytes stood in memory. Assumes nothing.
use Rattle.std.specs.Prelude.{◌≡◌, Bool, ℕ, zero, suc, ◌+◌, ◌≤◌, ltb, eqb, length, Err, Ok}
use Rattle.std.proofs.Math.Path.{refl, subst}
use Rattle.std.proofs.Common.{sym, ◌∙◌}
use Rattle.std.proofs.Math.Bool.{true, false}
use mathlib.Core.List.{List, [], ◌∷◌}
use native.Mathlib.Omega.{arith}
use borrow.Author.Tests.{eqb-true, ltb-false, not-false}
use Rattle.machine.specs.Machine.{pick, run_none, run-stop, run-go}
use Rattle.rules.specs.Numbers.{clips}
use Rattle.rules.specs.Lists.{lookup}
use Rattle.rules.specs.Lists.Found.{found}
use Rattle.rules.specs.Judging.{rule, Finding, at_place, Verdict}
use Rattle.rules.specs.Judging.Finding.{fine, broken}
use Rattle.rules.specs.Layouts.{entry}
use Rattle.rules.specs.Table.{matching, entry_place, entry_rules, keep, in_reach, take_entry}
use Rattle.rules.specs.Ring.{opening_of}
use Rattle.rules.specs.Packets.{Progress, at_first, take_packet, Belongings}
use Rattle.rules.specs.Stream.{left}
use Rattle.rules.specs.State.{Work, State, World, made}
use Rattle.rules.specs.State.Work.{resting, entries, packets, waiting}
use Rattle.rules.specs.Registers.{reset}
use Rattle.rules.specs.Settle.{settled}
use Rattle.rules.specs.Steps.{packets_at, entries_at, after_opening, open_step, after_entry, entry_step, after_packet, next_place, packet_step, step_on, step, go, run_for, answer_on, answered}
use Rattle.rules.specs.Calls.{lent_another, Ran, call_run, call_answer, call_write}
use Rattle.rules.specs.declared.Entry.{Entry}
use Rattle.rules.specs.declared.Record.{Record}
use Rattle.rules.specs.declared.Job.{Job}
use Rattle.rules.specs.declared.Table.{Table}
use Rattle.rules.specs.declared.Stream.{Stream}
use Rattle.rules.specs.declared.Opened.{Opened}
use Rattle.rules.specs.declared.Opening.{Opening}
use Rattle.rules.specs.declared.Opening.TheVariants.{BadRing, NoWork, Refused, Started}
use Rattle.rules.specs.declared.Refusal.TheVariants.{BadEntry}
use Rattle.promises_of_packets.specs.Held.{Every, every-none, every-pushed, Within}
use Rattle.rule_laws.specs.Fine.{fine-first, fine-later, kept_rule}
use Rattle.settle.specs.Only.{answered-keeps-memory, answered-is-lent-alike}
use Rattle.promises_of_units.specs.Memory.{unit-writes-by-settling, touched-length}
use Rattle.promises_of_units.specs.Runs.{of-run, of-answer}
use Rattle.promises_of_units.specs.Writes.{Written, write-keeps-or-drops}
use Rattle.promises_of_units.specs.Writes.Written.{keeps, drops}

abbrev pub EndsIn : ℕ → Entry → Type 0
EndsIn n e = e.gpa + e.size ≤ n

-- every entry that is kept ends within n bytes
abbrev pub LiesIn : ℕ → Work → Type 0
LiesIn n resting = 0 ≤ 0
LiesIn n (entries o kept) = Every (EndsIn n) kept
LiesIn n (packets j s at es h) = Every (EndsIn n) es
LiesIn n (waiting j es h) = Every (EndsIn n) es

-- ---- one entry

module _ (m : List ℕ) (t : Table) (kept : List Entry) (s : Every (EndsIn (length m)) kept) where
  ends : (e : Entry) → entry_rules (length m) kept e ≡ Ok tt → EndsIn (length m) e
  unfolding entry_rules
  ends e h =
      ltb-false (length m) (e.gpa + e.size)
      (kept_rule BadEntry _ (fine-first _ _ (fine-later (rule BadEntry (eqb e.size 0)) _ (fine-later (rule BadEntry (eqb e.id 0)) _ h))))

  kept-lies : (v : Verdict) (e : Entry) → entry_rules (length m) kept e ≡ v → Every (EndsIn (length m)) (keep v kept e).kept
  kept-lies (Ok _) e h = every-pushed (EndsIn (length m)) kept e s (ends e h)
  kept-lies (Err r) e h = s

  take-lies : Every (EndsIn (length m)) (take_entry m t kept).kept
  unfolding take_entry
  take-lies = by_test (in_reach m t (length kept))
    where
      by_test : (b : Bool)
          → Every (EndsIn (length m)) (pick b (keep (entry_rules (length m) kept (entry m (entry_place t (length kept)))) kept (entry m (entry_place t (length kept)))) (record { verdict = Err BadEntry; kept = kept })).kept
      by_test true = kept-lies (entry_rules (length m) kept (entry m (entry_place t (length kept)))) (entry m (entry_place t (length kept))) refl
      by_test false = s

-- ---- one unit

packets-lie : (n : ℕ) (j : Job) (s : Stream) (at : ℕ) (es : List Entry) (h : Progress) → Every (EndsIn n) es → LiesIn n (packets_at j s at es h)
packets-lie n j s at es h e = by_test (ltb at s.size)
  where
    by_test : (b : Bool) → LiesIn n (pick b (packets j s at es h) (waiting j es h))
    by_test true = e
    by_test false = e

entries-lie : (n : ℕ) (o : Opened) (kept : List Entry) (owned : Belongings) → Every (EndsIn n) kept → LiesIn n (entries_at o kept owned)
entries-lie n o kept owned e = by_test (ltb (length kept) o.table.count)
  where
    by_test : (b : Bool) → LiesIn n (pick b (entries o kept) (packets_at o.job o.stream 24 kept (at_first owned)))
    by_test true = e
    by_test false = packets-lie n o.job o.stream 24 kept (at_first owned) e

module _ (w : World) where
  abbrev bytes : ℕ
  bytes = length w.mem

  opening-lies-in : (v : Opening) → LiesIn bytes w.state.work → LiesIn bytes (after_opening w v).state.work
  unfolding settled
  opening-lies-in BadRing k = k
  opening-lies-in NoWork k = k
  opening-lies-in (Refused j r) k = omega arith
  opening-lies-in (Started o) k = entries-lie bytes o [] w.state.belongings (every-none (EndsIn bytes))

  entry-lies-in : (o : Opened) (kept : List Entry) (v : Finding) → Every (EndsIn bytes) kept → LiesIn bytes (after_entry w o kept v).state.work
  unfolding settled
  entry-lies-in o kept fine e = entries-lie bytes o kept w.state.belongings e
  entry-lies-in o kept (broken f) e = omega arith

  packet-lies-in : (j : Job) (t : Stream) (next : ℕ) (es : List Entry) (h : Progress) (v : Finding) → Every (EndsIn bytes) es → LiesIn bytes (after_packet w j t next es h v).state.work
  unfolding settled
  packet-lies-in j t next es h fine e = packets-lie bytes j t next es h e
  packet-lies-in j t next es h (broken f) e = omega arith

  step-on-lies : (k : Work) → w.state.work ≡ k → LiesIn bytes k → LiesIn bytes (step_on w k).state.work
  unfolding open_step entry_step packet_step
  step-on-lies resting e h =
      opening-lies-in (opening_of w.mem w.state.regs.ring w.state.regs.ringsize) (subst (LiesIn bytes) (sym e) h)
  step-on-lies (entries o kept) e h =
      entry-lies-in o (take_entry w.mem o.table kept).kept (at_place (length kept) (take_entry w.mem o.table kept).verdict) (take-lies w.mem o.table kept h)
  step-on-lies (packets j t at es held) e h =
      packet-lies-in j t (next_place at (left w.mem t at)) es (take_packet es held (left w.mem t at)).held (at_place at (take_packet es held (left w.mem t at)).verdict) h
  step-on-lies (waiting j es held) e h = subst (LiesIn bytes) (sym e) h

  answer-on-lies : (good : Bool) (n : ℕ) (k : Work) → w.state.work ≡ k → LiesIn n k → LiesIn n (answer_on good w k).state.work
  unfolding settled
  answer-on-lies good n resting e h = subst (LiesIn n) (sym e) h
  answer-on-lies good n (entries o kept) e h = subst (LiesIn n) (sym e) h
  answer-on-lies good n (packets j t at es held) e h = subst (LiesIn n) (sym e) h
  answer-on-lies true n (waiting j es held) e h = omega arith
  answer-on-lies false n (waiting j es held) e h = omega arith

step-lies : (w : World) → LiesIn (length w.mem) w.state.work → LiesIn (length w.mem) (step w).state.work
unfolding step
step-lies w h = step-on-lies w w.state.work refl h

run_lies : (k n : ℕ) (w : World) → length w.mem ≡ n → LiesIn n w.state.work → LiesIn n (run_for k w).state.state.work
run_lies zero n w e h = rw (run_none go step w) h
run_lies (suc k) n w e h =
    by_test (go w) refl
    (run_lies k n (step w) (touched-length w w.state.work (step w).mem (unit-writes-by-settling w) ∙ e) (subst (λ i. LiesIn i (step w).state.work) e (step-lies w (subst (λ i. LiesIn i w.state.work) (sym e) h))))
  where
    by_test : (b : Bool) → go w ≡ b → LiesIn n (run_for k (step w)).state.state.work → LiesIn n (run_for (suc k) w).state.state.work
    by_test true g q = rw (run-go go step k w g) q
    by_test false g q = rw (run-stop go step (suc k) w g) h

-- ---- every call, by the length that the device was made for

abbrev pub Lies : State → Type 0
Lies s = LiesIn s.memory s.work

pub made-lies : (memory : ℕ) → Lies (made memory)
made-lies memory = omega arith

-- a device stays made for one length
module _ (w : World) where
  opening-made : (v : Opening) → (after_opening w v).state.memory ≡ w.state.memory
  unfolding settled
  opening-made BadRing = refl
  opening-made NoWork = refl
  opening-made (Refused j r) = refl
  opening-made (Started o) = refl

  entry-made : (o : Opened) (kept : List Entry) (v : Finding) → (after_entry w o kept v).state.memory ≡ w.state.memory
  unfolding settled
  entry-made o kept fine = refl
  entry-made o kept (broken f) = refl

  packet-made : (j : Job) (t : Stream) (next : ℕ) (es : List Entry) (h : Progress) (v : Finding) → (after_packet w j t next es h v).state.memory ≡ w.state.memory
  unfolding settled
  packet-made j t next es h fine = refl
  packet-made j t next es h (broken f) = refl

  on-made : (k : Work) → (step_on w k).state.memory ≡ w.state.memory
  unfolding open_step entry_step packet_step
  on-made resting = opening-made (opening_of w.mem w.state.regs.ring w.state.regs.ringsize)
  on-made (entries o kept) = entry-made o (take_entry w.mem o.table kept).kept (at_place (length kept) (take_entry w.mem o.table kept).verdict)
  on-made (packets j t at es held) = packet-made j t (next_place at (left w.mem t at)) es (take_packet es held (left w.mem t at)).held (at_place at (take_packet es held (left w.mem t at)).verdict)
  on-made (waiting j es held) = refl

step-made : (w : World) → (step w).state.memory ≡ w.state.memory
unfolding step
step-made w = on-made w w.state.work

run-made : (k : ℕ) (w : World) → (run_for k w).state.state.memory ≡ w.state.memory
run-made zero w = rw (run_none go step w)
run-made (suc k) w = by_test (go w) refl (run-made k (step w))
  where
    by_test : (b : Bool) → go w ≡ b → (run_for k (step w)).state.state.memory ≡ (step w).state.memory → (run_for (suc k) w).state.state.memory ≡ w.state.memory
    by_test true g q = rw (run-go go step k w g) (q ∙ step-made w)
    by_test false g q = rw (run-stop go step (suc k) w g)

ran-lies : (w : World) (k : ℕ) → lent_another w ≡ false → Lies w.state → Lies (run_for k w).state.state
ran-lies w k e h =
    subst (λ i. LiesIn i (run_for k w).state.state.work) (sym (run-made k w))
    (run_lies k w.state.memory w (eqb-true (length w.mem) w.state.memory (not-false (eqb (length w.mem) w.state.memory) e)) h)

answered-lies : (good : Bool) (w : World) → Lies w.state → Lies (answered good w).state
unfolding answered
answered-lies good w h =
    subst (λ i. LiesIn i (answered good w).state.work) (sym (answered-keeps-memory good w)) (answer-on-lies w good w.state.memory w.state.work refl h)

pub run-call-lies : (w : World) (k : ℕ) → Lies w.state → Lies (call_run w k).world.state
run-call-lies w k h = of-run (λ (r : Ran). Lies r.world.state) w k (λ e. h) (λ e. ran-lies w k e h)

pub answer-call-lies : (w : World) (good : Bool) (k : ℕ) → Lies w.state → Lies (call_answer w good k).world.state
answer-call-lies w good k h =
    of-answer (λ (r : Ran). Lies r.world.state) w good k (λ e. h) (λ e f. h)
    (λ e f. ran-lies (answered good w) k (answered-is-lent-alike good w ∙ e) (answered-lies good w h))

written-lies : (s s' : State) (offset v : ℕ) → Lies s → Written s offset v s' → Lies s'
unfolding reset
written-lies s s' offset v h = by-written s'
  where
    by-written : (x : State) → Written s offset v x → Lies x
    by-written x (keeps r n c e) = h
    by-written x (drops e) = omega arith

pub write-call-lies : (s : State) (offset v : ℕ) → Lies s → Lies (call_write s offset v).state
write-call-lies s offset v h = written-lies s (call_write s offset v).state offset v h (write-keeps-or-drops s offset v)

-- ---- so what is handed out lies in memory

pub found-ends : (n id : ℕ) (es : List Entry) (c : Record) → Every (EndsIn n) es → Within c (matching id es) → c.gpa + c.length ≤ n
unfolding lookup Every
found-ends n id [] c h k = absurd k
found-ends n id (e ∷ es) c h k = by_test (eqb e.id id) (found-ends n id es c h.1) k
  where
    by_test : (b : Bool) → (Within c (matching id es) → c.gpa + c.length ≤ n) → Within c (pick b (found e) (matching id es)) → c.gpa + c.length ≤ n
    by_test true later q = omega (arith, q.1, h.0)
    by_test false later q = later q

-- a record of a range ends within n bytes
abbrev pub RangeEndsIn : ℕ → Record → Type 0
RangeEndsIn n c = (c.kind ≡ clips → ⊥) → c.gpa + c.length ≤ n
