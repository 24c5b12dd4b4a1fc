-- Demand 3, of submissions: wherever a submission is finished or waits, that is what the unsliced rules give, and the units are their
-- count, however the runs were cut. Assumes nothing.
use Rattle.std.specs.Prelude.{◌≡◌, refl, Bool, true, false, ◌&&◌, List, [], ◌∷◌, ℕ, zero, suc, ◌+◌, ◌<◌}
use Rattle.std.proofs.Common.{sym, ap, subst, ◌∙◌, zero-add, add_assoc, arith}
use Rattle.std.proofs.Math.Bool.{and-false}
use Rattle.machine.specs.Machine.{Out, run_none, run-stop}
use Rattle.machine.specs.Schedule.{Event}
use Rattle.machine.specs.Schedule.Event.{answers}
use Rattle.rules.specs.Judging.{Finding}
use Rattle.rules.specs.Judging.Finding.{fine, broken}
use Rattle.rules.specs.State.{Work, World}
use Rattle.rules.specs.State.Work.{resting, entries, packets, waiting}
use Rattle.rules.specs.Ring.{opening_of}
use Rattle.rules.specs.Table.{entries_of}
use Rattle.rules.specs.Packets.{Progress, at_first}
use Rattle.rules.specs.Settle.{settled}
use Rattle.rules.specs.Steps.{busy, step, go, run_for, waits_on, waits, answer_on, answered}
use Rattle.rules.specs.Unsliced.{submission as submission-of, finished, submitted_on, submitted}
use Rattle.rules.specs.declared.Entry.{Entry}
use Rattle.rules.specs.declared.Job.{Job}
use Rattle.rules.specs.declared.Opening.{Opening}
use Rattle.rules.specs.declared.Opening.TheVariants.{BadRing, NoWork, Refused, Started}
use Rattle.promises_of_submissions.specs.Whole.{midst}
use Rattle.promises_of_submissions.specs.Slices.{played}

-- nothing is in work, or a submission waits
abbrev pub Clear : World → Type 0
Clear w = midst w.state.work ≡ false

-- what the unsliced rules alone lead to: whole submissions, each with the rules' own count of units, and answers to those that wait
pub data Night : World → List Bool → ℕ → World → Type 0 where
  begun : {w : World} → Night w [] 0 w
  submission : {w v : World} {answers : List Bool} {n : ℕ} → w.state.work ≡ resting → go w ≡ true → Night (submitted w).state answers n v → Night w answers ((submitted w).units + n) v
  answer : {w v : World} {answers : List Bool} {n : ℕ} (good : Bool) → waits w.state ≡ true → Night (answered good w) answers n v → Night w (good ∷ answers) n v

-- ---- a submission's end, and an answer's, is clear

pub finished-clear : (w : World) (j : Job) (es : List Entry) (h : Progress) (v : Finding) → Clear (finished w j es h v)
unfolding settled
finished-clear w j es h fine = refl
finished-clear w j es h (broken f) = refl

submitted-on-clear : (w : World) (v : Opening) → Clear w → Clear (submitted_on w v).state
unfolding settled
submitted-on-clear w BadRing c = c
submitted-on-clear w NoWork c = c
submitted-on-clear w (Refused j r) c = refl
submitted-on-clear w (Started o) c =
    finished-clear w o.job (entries_of w.mem o.table) (submission-of w.mem o (at_first w.state.belongings)).held (submission-of w.mem o (at_first w.state.belongings)).finding

pub submitted-clear : (w : World) → Clear w → Clear (submitted w).state
unfolding submitted
submitted-clear w c = submitted-on-clear w (opening_of w.mem w.state.regs.ring w.state.regs.ringsize) c

answer-on-clear : (good : Bool) (w : World) (k : Work) → waits_on k ≡ true → Clear (answer_on good w k)
unfolding settled
answer-on-clear good w resting h = absurd (let z : ◌≡◌ {A = ℕ} 0 1 = cc in omega arith)
answer-on-clear good w (entries o kept) h = absurd (let z : ◌≡◌ {A = ℕ} 0 1 = cc in omega arith)
answer-on-clear good w (packets j s at es held) h = absurd (let z : ◌≡◌ {A = ℕ} 0 1 = cc in omega arith)
answer-on-clear true w (waiting j es held) h = refl
answer-on-clear false w (waiting j es held) h = refl

pub answered-clear : (good : Bool) (w : World) → waits w.state ≡ true → Clear (answered good w)
unfolding answered
answered-clear good w h = answer-on-clear good w w.state.work h

-- ---- what is clear and goes is at rest; what waits is clear

rests-on : (e r : Bool) (k : Work) → midst k ≡ false → e && busy r k ≡ true → k ≡ resting
rests-on e r resting c h = refl
rests-on e r (entries o kept) c h = absurd (let z : ◌≡◌ {A = ℕ} 0 1 = cc in omega arith)
rests-on e r (packets j s at es held) c h = absurd (let z : ◌≡◌ {A = ℕ} 0 1 = cc in omega arith)
rests-on e r (waiting j es held) c h =
    let y : false ≡ true = sym (and-false e) ∙ h in
    absurd (let z : ◌≡◌ {A = ℕ} 0 1 = cc in omega arith)

pub rests : (w : World) → Clear w → go w ≡ true → w.state.work ≡ resting
unfolding go
rests w c h = rests-on w.state.regs.enabled w.state.regs.doorbell w.state.work c h

pub waits-clear : (k : Work) → waits_on k ≡ true → midst k ≡ false
waits-clear resting h = refl
waits-clear (entries o kept) h = absurd (let z : ◌≡◌ {A = ℕ} 0 1 = cc in omega arith)
waits-clear (packets j s at es held) h = absurd (let z : ◌≡◌ {A = ℕ} 0 1 = cc in omega arith)
waits-clear (waiting j es held) h = refl

-- ---- where a run stands: so many units into what began at the last clear world

pub record At (w : World) (j : ℕ) (x : World) : Type 0 where
  pub clear : Clear w
  pub here : run_for j w ≡ record { state = x; units = j }
  pub inside : 0 < j → midst x.state.work ≡ true

pub at_once : (w : World) → Clear w → At w 0 w
at_once w c = record { clear = c; here = run_none go step w; inside = λ h. absurd (omega arith) }

-- what stands there and is clear is that world itself
pub at_clear : (w x : World) (j : ℕ) → At w j x → Clear x → (j ≡ 0) × (w ≡ x)
at_clear w x zero a c = (refl, ap (λ (o : Out World). o.state) (sym (run_none go step w) ∙ a.here))
at_clear w x (suc j) a c =
    let y : true ≡ false = sym (a.inside (omega arith)) ∙ c in
    absurd (let z : ◌≡◌ {A = ℕ} 0 1 = cc in omega arith)

pub record Reached (w : World) (n : ℕ) : Type 0 where
  pub point : World
  pub into : ℕ
  pub past : ℕ
  pub night : Night w [] past point
  pub at : At point into (run_for n w).state
  pub sum : past + into ≡ (run_for n w).units

module _ (w : World) (n : ℕ) (c : Clear w) where
  pub reached-still : go w ≡ false → Reached w n
  reached-still g =
      record {
        point = w;
        into = 0;
        past = 0;
        night = begun;
        at = rw (run-stop go step n w g) (at_once w c);
        sum = rw (run-stop go step n w g);
      }

-- ---- schedules

pub night_on : {w x v : World} {answers : List Bool} {t n : ℕ} → Night w [] t x → Night x answers n v → Night w answers (t + n) v
night_on {w} {x} {v} {answers} {t} {n} begun q = subst (λ k. Night w answers k v) (sym (zero-add n)) q
night_on {w} {x} {v} {answers} {t} {n} (submission {n = k} rest g p) q =
    subst (λ i. Night w answers i v) (sym (add_assoc (submitted w).units k n)) (submission rest g (night_on p q))

-- wherever a schedule from x stands clear, whole submissions lead there from where x is j units into one
abbrev pub Leads : List (Event Bool) → World → ℕ → World → Type 0
Leads es w j x = At w j x → Clear (played es x).state → Night w (played es x).accepted (j + (played es x).units) (played es x).state
