-- A submission's units one by one: all but the last change the work alone, whatever the registers are, and with any registers that enable
-- they end where the unsliced rules end, after their count of units. Assumes nothing.
use Rattle.std.specs.Prelude.{◌≡◌, Bool, true, false, List, ℕ, zero, suc, ◌≤◌, ◌<◌, ltb, length}
use Rattle.std.proofs.Math.Path.{refl, sym, ap}
use Rattle.std.proofs.Common.{subst, ◌∙◌, arith, one-add, ltb-false, ltb-true}
use Rattle.machine.specs.Machine.{Out, run_none, run-go}
use Rattle.rules.specs.Judging.{Finding, at_place}
use Rattle.rules.specs.Judging.Finding.{fine, broken}
use Rattle.rules.specs.Table.{take_entry}
use Rattle.rules.specs.Stream.{left}
use Rattle.rules.specs.Packets.{Progress, take_packet}
use Rattle.rules.specs.State.{Work, World, working, registering}
use Rattle.rules.specs.State.Work.{resting, entries, packets, waiting}
use Rattle.rules.specs.Settle.{settled}
use Rattle.rules.specs.Steps.{after_entry, entry_step, after_packet, next_place, packet_step, step_on, step, go, run_for}
use Rattle.rules.specs.declared.Entry.{Entry}
use Rattle.rules.specs.declared.Job.{Job}
use Rattle.rules.specs.declared.Registers.{Registers}
use Rattle.rules.specs.declared.Stream.{Stream}
use Rattle.rules.specs.declared.Opened.{Opened}
use Rattle.promises_of_submissions.specs.Whole.{midst, Course, course_join}
use Rattle.promises_of_submissions.specs.AnyRegisters.{goes_on}
use Rattle.promises_of_submissions.specs.Night.{Clear}

-- no test comes out both ways
pub clash : {A : Type 0} {b : Bool} → b ≡ true → b ≡ false → A
clash y n = absurd (let z : ◌≡◌ {A = ℕ} 0 1 = cc in omega arith)

-- ---- a unit that is not a submission's last changes the work alone, and takes no heed of the registers

module _ (x : World) (q : Registers) where
  -- what a unit leads to with registers q is what it leads to with x's own
  abbrev Heedless : World → World → Type 0
  Heedless y own = midst own.state.work ≡ true → y ≡ registering q (working own.state.work x)

  entry_alone : (o : Opened) (kept : List Entry) (v : Finding) → Heedless (after_entry (registering q x) o kept v) (after_entry x o kept v)
  unfolding settled
  entry_alone o kept fine h = refl
  entry_alone o kept (broken f) h = clash h refl

  packet_alone : (j : Job) (t : Stream) (next : ℕ) (es : List Entry) (held : Progress) (v : Finding)
      → Heedless (after_packet (registering q x) j t next es held v) (after_packet x j t next es held v)
  unfolding settled
  packet_alone j t next es held fine h = refl
  packet_alone j t next es held (broken f) h = clash h refl

  on-alone : (k : Work) → midst k ≡ true → Heedless (step_on (registering q x) k) (step_on x k)
  unfolding entry_step packet_step
  on-alone resting m h = clash m refl
  on-alone (entries o kept) m h = entry_alone o (take_entry x.mem o.table kept).kept (at_place (length kept) (take_entry x.mem o.table kept).verdict) h
  on-alone (packets j t at es held) m h =
      packet_alone j t (next_place at (left x.mem t at)) es (take_packet es held (left x.mem t at)).held (at_place at (take_packet es held (left x.mem t at)).verdict) h
  on-alone (waiting j es held) m h = clash m refl

  -- one that stays in the midst
  pub unit-alone : midst x.state.work ≡ true → Heedless (step (registering q x)) (step x)
  unfolding step
  unit-alone m h = on-alone x.state.work m h

-- ---- courses: in the midst until the end

-- one unit of it
pub course_one : (w : World) → w.state.regs.enabled ≡ true → midst w.state.work ≡ true → Course 1 w (step w)
unfolding go
course_one w on m =
    record {
      ends = run-go go step 0 w (goes_on w.state.regs.enabled w.state.regs.doorbell w.state.work on m) ∙ rw (run_none go step (step w));
      inside = at;
    }
  where
    at : (i : ℕ) → i < 1 → midst (run_for i w).state.state.work ≡ true
    at zero h = rw (run_none go step w) m
    at (suc i) h = absurd (omega arith)

-- one unit, and then the rest
pub course_next : (n : ℕ) (w v : World) → w.state.regs.enabled ≡ true → midst w.state.work ≡ true → Course n (step w) v → Course (suc n) w v
course_next n w v on m c = subst (λ k. Course k w v) (one-add n) (course_join 1 n w (step w) v (course_one w on m) c)

-- one that ends clear is not shorter than another from the same world
not-before : {a b : ℕ} {w x y : World} → Course a w x → Clear x → Course b w y → b ≤ a
not-before {a} {b} {w} p c q = by_test (ltb a b) refl
  where
    by_test : (t : Bool) → ltb a b ≡ t → b ≤ a
    by_test true h = clash (q.inside a (ltb-true a b h)) (ap (λ (o : Out World). midst o.state.state.work) p.ends ∙ c)
    by_test false h = ltb-false a b h

-- so two that end clear are one
pub course-unique : {a b : ℕ} {w x y : World} → Course a w x → Clear x → Course b w y → Clear y → (a ≡ b) × (x ≡ y)
course-unique {a} {b} {w} {x} {y} p c q d =
    let less : b ≤ a = not-before p c q in
    let more : a ≤ b = not-before q d p in
    let same : a ≡ b = omega arith in
    (same, ap (λ (o : Out World). o.state) (sym p.ends ∙ (ap (λ k. run_for k w) same ∙ q.ends)))

-- and one that ends in the midst is shorter than one that ends clear
pub course-shorter : {a b : ℕ} {w x y : World} → Course a w x → midst x.state.work ≡ true → Course b w y → Clear y → a < b
course-shorter {a} {b} {w} {x} {y} p m q d = by_test (ltb a b) refl
  where
    by_test : (t : Bool) → ltb a b ≡ t → a < b
    by_test true h = ltb-true a b h
    by_test false h =
        let less : b ≤ a = ltb-false a b h in
        let more : a ≤ b = not-before q d p in
        let same : a ≡ b = omega arith in
        clash m (ap (λ (o : Out World). midst o.state.state.work) (sym p.ends ∙ (ap (λ k. run_for k w) same ∙ q.ends)) ∙ d)

-- ---- a submission that goes on after its opening

-- with registers q, its later units end at o's state, which is clear, and with the opening's unit they are o's units
pub record Opens (w : World) (q : Registers) (o : Out World) : Type 0 where
  pub alone : step w ≡ working (step w).state.work w
  pub count : ℕ
  pub units : suc count ≡ o.units
  pub course : Course count (registering q (step w)) o.state
  pub clear : Clear o.state

-- one that its opening ends
module _ (w : World) (rest : w.state.work ≡ resting) (g : go w ≡ true) (c : Clear (step w)) where
  pub first-unit : run_for 1 w ≡ record { state = step w; units = 1 }
  first-unit = run-go go step 0 w g ∙ rw (run_none go step (step w))
