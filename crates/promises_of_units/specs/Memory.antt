-- Only a settling writes guest memory: of each unit and each answer, the bytes are as they were, or the head and the page of the
-- submission in work (or of the one refused at this opening) were written, and no other byte has changed. Assumes nothing.
use Rattle.std.specs.Prelude.{◌≡◌, Bool, true, false, List, ℕ, zero, suc, length}
use Rattle.std.proofs.Math.Path.{refl}
use Rattle.std.proofs.Common.{ap, ◌∙◌}
use Rattle.machine.specs.Machine.{Out, run_none, run-stop, run-go}
use Rattle.rules.specs.Judging.{Finding, at_place, without_place}
use Rattle.rules.specs.Judging.Finding.{fine, broken}
use Rattle.rules.specs.Ring.{opening_of}
use Rattle.rules.specs.Table.{take_entry}
use Rattle.rules.specs.Stream.{left}
use Rattle.rules.specs.Packets.{Progress, take_packet, Belongings, left_by}
use Rattle.rules.specs.State.{Work, World}
use Rattle.rules.specs.State.Work.{resting, entries, packets, waiting}
use Rattle.rules.specs.Settle.{ended_by, marked, settled}
use Rattle.rules.specs.Steps.{after_opening, open_step, after_entry, entry_step, after_packet, next_place, packet_step, step_on, step, go, run_for, answer_on, answered}
use Rattle.rules.specs.declared.Refusal.{Refusal}
use Rattle.rules.specs.declared.Entry.{Entry}
use Rattle.rules.specs.declared.Job.{Job}
use Rattle.rules.specs.declared.Stream.{Stream}
use Rattle.rules.specs.declared.Opened.{Opened}
use Rattle.rules.specs.declared.Opening.{Opening}
use Rattle.rules.specs.declared.Opening.TheVariants.{BadRing, NoWork, Refused, Started}
use Rattle.settle.specs.Only.{marked-length}

-- an opening now refuses this submission
pub record RefusedHere (w : World) (j : Job) : Type 0 where
  pub why : Refusal
  pub here : opening_of w.mem w.state.regs.ring w.state.regs.ringsize ≡ Refused j why

-- the submission that a unit or an answer can settle: the one in work, or the one that this opening refuses
abbrev pub JobOf : World → Work → Job → Type 0
JobOf w resting j = RefusedHere w j
JobOf w (entries o kept) j = j ≡ o.job
JobOf w (packets k s at es h) j = j ≡ k
JobOf w (waiting k es h) j = j ≡ k

-- what one unit or one answer does to the bytes: nothing, or the head and the page of that submission, by the registers as its
-- settling leaves them
pub data Touched (w : World) (k : Work) : List ℕ → Type 0 where
  untouched : Touched w k w.mem
  settles : (j : Job) (v : Finding) → JobOf w k j → Touched w k (marked j (ended_by j v w.state.regs) w.mem)

module _ (w : World) where
  settled-touches : (k : Work) (j : Job) (v : Finding) (owned : Belongings) → JobOf w k j → Touched w k (settled j v owned w).mem
  unfolding settled
  settled-touches k j v owned own = settles j v own

  opening-touches : (v : Opening) → opening_of w.mem w.state.regs.ring w.state.regs.ringsize ≡ v → Touched w resting (after_opening w v).mem
  opening-touches BadRing e = untouched
  opening-touches NoWork e = untouched
  opening-touches (Refused j r) e = settled-touches resting j (broken (without_place r)) w.state.belongings (record { why = r; here = e })
  opening-touches (Started o) e = untouched

  entry-touches : (o : Opened) (kept kept' : List Entry) (v : Finding) → Touched w (entries o kept) (after_entry w o kept' v).mem
  entry-touches o kept kept' fine = untouched
  entry-touches o kept kept' (broken f) = settled-touches (entries o kept) o.job (broken f) w.state.belongings refl

  packet-touches : (j : Job) (s : Stream) (at next : ℕ) (es : List Entry) (h h' : Progress) (v : Finding) → Touched w (packets j s at es h) (after_packet w j s next es h' v).mem
  packet-touches j s at next es h h' fine = untouched
  packet-touches j s at next es h h' (broken f) = settled-touches (packets j s at es h) j (broken f) w.state.belongings refl

  on-touches : (k : Work) → Touched w k (step_on w k).mem
  unfolding open_step entry_step packet_step
  on-touches resting = opening-touches (opening_of w.mem w.state.regs.ring w.state.regs.ringsize) refl
  on-touches (entries o kept) = entry-touches o kept (take_entry w.mem o.table kept).kept (at_place (length kept) (take_entry w.mem o.table kept).verdict)
  on-touches (packets j s at es h) =
      packet-touches j s at (next_place at (left w.mem s at)) es h (take_packet es h (left w.mem s at)).held (at_place at (take_packet es h (left w.mem s at)).verdict)
  on-touches (waiting j es h) = untouched

  answer-touches : (good : Bool) (k : Work) → Touched w k (answer_on good w k).mem
  answer-touches good resting = untouched
  answer-touches good (entries o kept) = untouched
  answer-touches good (packets j s at es h) = untouched
  answer-touches true (waiting j es h) = settled-touches (waiting j es h) j fine (left_by h) refl
  answer-touches false (waiting j es h) = settled-touches (waiting j es h) j _ w.state.belongings refl

-- one unit writes memory only by settling, and so does an answer
pub unit-writes-by-settling : (w : World) → Touched w w.state.work (step w).mem
unfolding step
unit-writes-by-settling w = on-touches w w.state.work

pub answer-writes-by-settling : (good : Bool) (w : World) → Touched w w.state.work (answered good w).mem
unfolding answered
answer-writes-by-settling good w = answer-touches w good w.state.work

-- memory keeps its length
pub touched-length : (w : World) (k : Work) (m : List ℕ) → Touched w k m → length m ≡ length w.mem
touched-length w k m untouched = refl
touched-length w k m (settles j v own) = marked-length j (ended_by j v w.state.regs) w.mem

pub run-keeps-length : (n : ℕ) (w : World) → length (run_for n w).state.mem ≡ length w.mem
run-keeps-length zero w = rw (run_none go step w)
run-keeps-length (suc n) w = by_test (go w) refl (run-keeps-length n (step w))
  where
    by_test : (b : Bool) → go w ≡ b → length (run_for n (step w)).state.mem ≡ length (step w).mem → length (run_for (suc n) w).state.mem ≡ length w.mem
    by_test true g k = ap (λ (x : Out World). length x.state.mem) (run-go go step n w g) ∙ (k ∙ touched-length w w.state.work (step w).mem (unit-writes-by-settling w))
    by_test false g k = ap (λ (x : Out World). length x.state.mem) (run-stop go step (suc n) w g)
