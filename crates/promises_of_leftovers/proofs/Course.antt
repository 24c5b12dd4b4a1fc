-- The theorems of specs/Course.antt, and what they rest on. Assumes nothing.
use Rattle.std.proofs.Math.Path.{◌≡◌, ap}
use Rattle.std.specs.Prelude.{refl, Bool, List, [], ◌∷◌, ◌++◌, ℕ, zero, suc, ◌+◌, eqb, length}
use Rattle.std.proofs.Common.{sym, subst, ◌∙◌, arith}
use Rattle.std.proofs.Math.Bool.{true, false}
use Rattle.machine.specs.Machine.{pick, run_none, run-stop, run-go}
use Rattle.rules.specs.Numbers.{done, other_memory, nothing_waits}
use Rattle.rules.specs.State.{State, World}
use Rattle.rules.specs.Steps.{step, go, run_for, waits, answered}
use Rattle.rules.specs.Calls.{lent_another, not_run, Ran, ran, call_write, call_run, call_answer}
use Rattle.rules.specs.Listed.{where_true, unit_listed}
use Rattle.promises_of_submissions.specs.Locality.{lent}
use Rattle.promises_of_units.specs.Runs.{of-answer, taken-and-run}
use Rattle.promises_of_units.specs.Called.{Call, after, after_all}
use Rattle.promises_of_units.specs.Called.Call.{writes, reads, runs, records, answers}
use Rattle.promises_of_leftovers.specs.Opening.{front_of, back-of}
use Rattle.promises_of_leftovers.specs.Unit.{still-on, end-still}
use Rattle.promises_of_leftovers.proofs.Unit.{unit-by-the-listed}
use Rattle.promises_of_leftovers.specs.Course.{Alike, SameReport, SameUnits, Still, after-still, answered-alike, call_units_listed, calls_units_listed, ran-alike, refused-alike, same-go, same-lent, stands, units_listed}

-- ---- a unit and a run, of two worlds in one state

unit-alike : (x x' : World) → x.state ≡ x'.state → length x.mem ≡ length x'.mem → Alike x x' (unit_listed x.state.regs x.state.work x.mem)
    → Still x x' (step x) (step x')
unit-alike x x' e len same =
    subst (λ (s : State). Still x x' (step x) (step (lent s x'.mem))) e
    (end-still x.mem x'.mem _ _ len (unit-by-the-listed x.state x.mem x'.mem len same))

pub run-alike : (n : ℕ) (x x' : World) → x.state ≡ x'.state → length x.mem ≡ length x'.mem → Alike x x' (units_listed n x) → SameUnits x x' (run_for n x) (run_for n x')
unfolding units_listed
run-alike zero x x' e len same = rw (run_none go step x, run_none go step x') (record { units = refl; end = stands x x' e len })
run-alike (suc n) x x' e len same = by_test (go x) refl same (run-alike n (step x) (step x'))
  where
    by_test : (t : Bool) → go x ≡ t → Alike x x' (where_true t (unit_listed x.state.regs x.state.work x.mem ++ units_listed n (step x)))
        → ((step x).state ≡ (step x').state → length (step x).mem ≡ length (step x').mem → Alike (step x) (step x') (units_listed n (step x))
        → SameUnits (step x) (step x') (run_for n (step x)) (run_for n (step x')))
        → SameUnits x x' (run_for (suc n) x) (run_for (suc n) x')
    by_test true g s later =
        let one : Still x x' (step x) (step x') = unit-alike x x' e len (front_of x.mem x'.mem _ _ s) in
        let rest : SameUnits (step x) (step x') (run_for n (step x)) (run_for n (step x')) =
        later one.state one.long (after-still x x' (step x) (step x') one (units_listed n (step x)) (back-of x.mem x'.mem (unit_listed x.state.regs x.state.work x.mem) _ s)) in
        rw (run-go go step n x g, run-go go step n x' (sym (same-go x x' e) ∙ g))
        (record { units = ap (λ (k : ℕ). 1 + k) rest.units; end = still-on one.still rest.end })
    by_test false g s later =
        rw (run-stop go step (suc n) x g, run-stop go step (suc n) x' (sym (same-go x x' e) ∙ g)) (record { units = refl; end = stands x x' e len })

-- ---- a call

module _ (x x' : World) (e : x.state ≡ x'.state) (len : length x.mem ≡ length x'.mem) where
  pub run-call-alike : (n : ℕ) → Alike x x' (call_units_listed (runs n) x) → SameReport x x' (call_run x n) (call_run x' n)
  unfolding call_run call_units_listed
  run-call-alike n same = rw (← same-lent x x' e len) (by_test (lent_another x) same)
    where
      by_test : (t : Bool) → Alike x x' (where_true (eqb (pick t (not_run other_memory x) (ran (run_for n x))).answer done) (units_listed n x))
          → SameReport x x' (pick t (not_run other_memory x) (ran (run_for n x))) (pick t (not_run other_memory x') (ran (run_for n x')))
      by_test true s = refused-alike x x' other_memory e len
      by_test false s = ran-alike x x' (run_for n x) (run_for n x') (run-alike n x x' e len s)

  pub answer-call-alike : (good : Bool) (n : ℕ) → Alike x x' (call_units_listed (answers good n) x) → SameReport x x' (call_answer x good n) (call_answer x' good n)
  unfolding call_units_listed
  answer-call-alike good n =
      of-answer (λ (r : Ran). Alike x x' (where_true (eqb r.answer done) (units_listed n (answered good x))) → SameReport x x' r (call_answer x' good n)) x good n
      (λ l s. rw (other (sym (same-lent x x' e len) ∙ l)) (refused-alike x x' other_memory e len))
      (λ l k s. rw (nothing (sym (same-lent x x' e len) ∙ l) (ap waits (sym e) ∙ k)) (refused-alike x x' nothing_waits e len))
      (λ l k s. rw (taken-and-run x' good n (sym (same-lent x x' e len) ∙ l) (ap waits (sym e) ∙ k)) (taken s))
    where
      other : lent_another x' ≡ true → call_answer x' good n ≡ not_run other_memory x'
      other l =
          of-answer (λ (r : Ran). r ≡ not_run other_memory x') x' good n (λ k. refl) (λ k q. absurd (let z : ◌≡◌ {A = ℕ} 0 1 = cc in omega arith))
          (λ k q. absurd (let z : ◌≡◌ {A = ℕ} 0 1 = cc in omega arith))

      nothing : lent_another x' ≡ false → waits x'.state ≡ false → call_answer x' good n ≡ not_run nothing_waits x'
      nothing l h =
          of-answer (λ (r : Ran). r ≡ not_run nothing_waits x') x' good n (λ k. absurd (let z : ◌≡◌ {A = ℕ} 0 1 = cc in omega arith)) (λ k q. refl)
          (λ k q. absurd (let z : ◌≡◌ {A = ℕ} 0 1 = cc in omega arith))

      taken : Alike x x' (units_listed n (answered good x)) → SameReport x x' (ran (run_for n (answered good x))) (ran (run_for n (answered good x')))
      taken s =
          let one : Still x x' (answered good x) (answered good x') = answered-alike good x x' e len in
          let rest : SameUnits (answered good x) (answered good x') (run_for n (answered good x)) (run_for n (answered good x')) =
          run-alike n (answered good x) (answered good x') one.state one.long (after-still x x' (answered good x) (answered good x') one (units_listed n (answered good x)) s) in
          ran-alike x x' (run_for n (answered good x)) (run_for n (answered good x')) (record { units = rest.units; end = still-on one.still rest.end })

  -- where a call leads
  pub call-leads-alike : (c : Call) → Alike x x' (call_units_listed c x) → Still x x' (after c x) (after c x')
  unfolding after
  call-leads-alike (writes offset v) s = record { state = ap (λ (t : State). (call_write t offset v).state) e; long = len; still = λ i h. h }
  call-leads-alike (reads offset) s = stands x x' e len
  call-leads-alike (runs n) s = (run-call-alike n s).end
  call-leads-alike (records i) s = stands x x' e len
  call-leads-alike (answers good n) s = (answer-call-alike good n s).end

-- ---- and any calls

pub calls-lead-alike : (cs : List Call) (x x' : World) → x.state ≡ x'.state → length x.mem ≡ length x'.mem → Alike x x' (calls_units_listed cs x)
    → Still x x' (after_all cs x) (after_all cs x')
unfolding calls_units_listed after_all
calls-lead-alike [] x x' e len same = stands x x' e len
calls-lead-alike (c ∷ cs) x x' e len same =
    let one : Still x x' (after c x) (after c x') = call-leads-alike x x' e len c (front_of x.mem x'.mem _ _ same) in
    still-on one.still
    (calls-lead-alike cs (after c x) (after c x') one.state one.long
    (after-still x x' (after c x) (after c x') one (calls_units_listed cs (after c x)) (back-of x.mem x'.mem (call_units_listed c x) _ same)))
