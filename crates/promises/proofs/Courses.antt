-- The theorems of specs/Courses.antt, and what they rest on. Assumes nothing.
use Rattle.std.specs.Prelude.{◌≡◌, Bool, true, false, ◌<◌, ltb}
use Rattle.std.proofs.Math.Path.{refl, sym, ap}
use Rattle.std.proofs.Common.{◌∙◌, arith, ltb-false, ltb-true}
use Rattle.machine.specs.Machine.{Out}
use Rattle.rules.specs.Ring.{opening_of}
use Rattle.rules.specs.Table.{entries_of}
use Rattle.rules.specs.Packets.{at_first}
use Rattle.rules.specs.State.{World, working, registering}
use Rattle.rules.specs.State.Work.{resting}
use Rattle.rules.specs.Settle.{settled}
use Rattle.rules.specs.Steps.{after_opening, open_step, step, go, run_for}
use Rattle.rules.specs.Unsliced.{submission, submitted_on, submitted}
use Rattle.rules.specs.declared.Registers.{Registers}
use Rattle.rules.specs.declared.Opening.{Opening}
use Rattle.rules.specs.declared.Opening.TheVariants.{BadRing, NoWork, Refused, Started}
use Rattle.promises_of_submissions.specs.Whole.{midst}
use Rattle.promises_of_submissions.specs.Submission.{LiesOn, later_units, table_judged, packets_judged}
use Rattle.promises_of_submissions.proofs.Submission.{opening-lies, course_started, submission-units, submits}
use Rattle.promises_of_submissions.specs.Night.{Clear, finished-clear}
use Rattle.promises.specs.Chains.{submitted_under}
use Rattle.promises.specs.Courses.{Opens, clash, first-unit}

-- ---- a submission that goes on after its opening

module _ (w : World) (rest : w.state.work ≡ resting) (m : midst (step w).state.work ≡ true) (q : Registers) (on : q.enabled ≡ true) where
  opens-on : (v : Opening) → LiesOn w.mem v → step w ≡ after_opening w v → Opens w q (submitted_on (registering q w) v)
  unfolding settled
  opens-on BadRing lies e = clash m (ap (λ (x : World). midst x.state.work) e ∙ ap midst rest)
  opens-on NoWork lies e = clash m (ap (λ (x : World). midst x.state.work) e ∙ ap midst rest)
  opens-on (Refused j r) lies e = clash m (ap (λ (x : World). midst x.state.work) e)
  opens-on (Started o) lies e =
      record {
        alone = e ∙ ap (λ (x : World). working x.state.work w) (sym e);
        count = later_units (table_judged (registering q w) on o lies).finding
            (table_judged (registering q w) on o lies).count (packets_judged (registering q w) on o lies).count;
        units = sym (submission-units (registering q w) on o lies);
        course = rw e (course_started (registering q w) on o lies);
        clear = finished-clear (registering q w) o.job (entries_of w.mem o.table) (submission w.mem o (at_first w.state.belongings)).held
            (submission w.mem o (at_first w.state.belongings)).finding;
      }

  -- o being what the unsliced rules give
  pub opens : Opens w q (submitted_under q w)
  unfolding step open_step
  opens =
      opens-on (opening_of w.mem w.state.regs.ring w.state.regs.ringsize)
      (opening-lies w.mem w.state.regs.ring w.state.regs.ringsize) (rw rest)

-- one that its opening ends
module _ (w : World) (rest : w.state.work ≡ resting) (g : go w ≡ true) (c : Clear (step w)) where
  opening-is-all : (submitted w).units ≡ 1
  opening-is-all = by_test (ltb 1 (submitted w).units) refl
    where
      by_test : (t : Bool) → ltb 1 (submitted w).units ≡ t → (submitted w).units ≡ 1
      by_test true h =
          clash ((submits w rest g).inside 1 (omega arith) (ltb-true 1 (submitted w).units h)) (ap (λ (o : Out World). midst o.state.state.work) (first-unit w rest g c) ∙ c)
      by_test false h = let some : 0 < (submitted w).units = (submits w rest g).some in omega (arith, ltb-false 1 (submitted w).units h)

  -- is what the unsliced rules give
  pub opening-ends : submitted w ≡ record { state = step w; units = 1 }
  opening-ends = sym (submits w rest g).ends ∙ (ap (λ k. run_for k w) opening-is-all ∙ (first-unit w rest g c))
