-- The theorems of specs/Submissions.antt, and what they rest on. Assumes nothing.
use Rattle.std.proofs.Math.Path.{◌≡◌, refl}
use Rattle.std.specs.Prelude.{Bool, eqb}
use Rattle.std.proofs.Math.Bool.{true, false}
use mathlib.Core.List.{List, [], ◌∷◌, ◌++◌}
use Prim.Native.Nat.{ℕ, zero, suc}
use Rattle.std.proofs.Common.{arith}
use Rattle.machine.specs.Machine.{run_none, run-stop, run-go}
use Rattle.rules.specs.Numbers.{done}
use Rattle.rules.specs.State.{Work, World}
use Rattle.rules.specs.State.Work.{resting, entries, packets, waiting}
use Rattle.rules.specs.Settle.{settled}
use Rattle.rules.specs.Steps.{step, go, answered}
use Rattle.rules.specs.Calls.{at_rest, Ran}
use Rattle.rules.specs.Listed.{Named, where_true, submission_listed, listed_at, listed}
use Rattle.promises_of_packets.specs.Held.{Every, every-none, every-both, every_front, every_back}
use Rattle.promises_of_units.specs.Writes.{write-keeps-or-drops}
use Rattle.promises_of_units.specs.Runs.{of-run, of-answer}
use Rattle.promises_of_units.specs.Units.{Unit}
use Rattle.promises_of_units.proofs.Units.{unit}
use Rattle.promises_of_units.specs.Units.Unit.{works-on, finds-bad-ring, finds-no-work, settles}
use Rattle.promises_of_units.specs.Called.{Call, after}
use Rattle.promises_of_units.specs.Called.Call.{writes, reads, runs, records, answers}
use Rattle.promises_of_leftovers.specs.Course.{units_listed, call_units_listed, calls_units_listed}
use Rattle.promises_of_leftovers.specs.Cover.{unit-of-listed, next-listed}
use Rattle.promises_of_leftovers.specs.Submissions.{Covered, InWork, There, call_openings, in-work-answered, in-work-written, in_work, listed_in_work, no-work, openings, run_openings, where_so}

-- ---- it covers what their units list

module _ (P : Named → Type 0) where
  -- where a unit is due: all that is listed there
  all_here : (w : World) (k : Work) → Every (There P) (where_so (at_rest k) (w ∷ [])) → (at_rest k ≡ false → Every P (listed_at w.state.regs k w.mem))
      → Every P (listed_at w.state.regs k w.mem)
  unfolding Every
  all_here w resting s h = s.0
  all_here w (entries o kept) s h = h refl
  all_here w (packets j t at es held) s h = h refl
  all_here w (waiting j es held) s h = h refl

  after-unit : (w w' : World) → Unit w w' → Every P (listed w.state w.mem) → (InWork P) w'
  unfolding settled
  after-unit w w' (works-on next h) s = λ _. next-listed P w w.state.work next h s
  after-unit w w' (finds-bad-ring e h) s = (no-work P) w' e
  after-unit w w' (finds-no-work e h) s = (no-work P) w' e
  after-unit w w' (settles j f h) s = (no-work P) w' refl

  pub run-covered : (n : ℕ) (w : World) → (InWork P) w → Every (There P) (run_openings n w) → (Covered P) n w
  unfolding run_openings units_listed
  run-covered zero w i s = record { units = every-none P; rest = rw (run_none go step w) i }
  run-covered (suc n) w i s = by_test (go w) refl s (run-covered n (step w))
    where
      by_test : (t : Bool) → go w ≡ t
          → Every (There P) (where_so t (where_so (at_rest w.state.work) (w ∷ []) ++ run_openings n (step w)))
          → ((InWork P) (step w) → Every (There P) (run_openings n (step w)) → (Covered P) n (step w)) → (Covered P) (suc n) w
      by_test true g s later =
          let here : Every P (listed w.state w.mem) = all_here w w.state.work (every_front (There P) _ _ s) i in
          let all : (Covered P) n (step w) =
          later (after-unit w (step w) (unit w) here)
          (every_back (There P) (where_so (at_rest w.state.work) (w ∷ [])) _ s) in
          record {
            units = rw g (every-both P _ _ (unit-of-listed P w.state.regs w.state.work w.mem here) all.units);
            rest = rw (run-go go step n w g) all.rest;
          }
      by_test false g s later = record { units = rw g (every-none P); rest = rw (run-stop go step (suc n) w g) i }

  pub call-covered : (c : Call) (w : World) → (InWork P) w → Every (There P) (call_openings c w) → Every P (call_units_listed c w) × (InWork P) (after c w)
  unfolding call_openings call_units_listed after
  call-covered (writes offset v) w i s = (every-none P, (in-work-written P) w offset v _ (write-keeps-or-drops w.state offset v) i)
  call-covered (reads offset) w i s = (every-none P, i)
  call-covered (runs n) w i s =
      of-run (λ (r : Ran). Every (There P) (where_so (eqb r.answer done) (run_openings n w)) → Every P (where_true (eqb r.answer done) (units_listed n w)) × (InWork P) r.world) w n
      (λ l s. (every-none P, i)) (λ l s. let all : (Covered P) n w = run-covered n w i s in (all.units, all.rest)) s
  call-covered (records j) w i s = (every-none P, i)
  call-covered (answers good n) w i s =
      of-answer (λ (r : Ran). Every (There P) (where_so (eqb r.answer done) (run_openings n (answered good w)))
      → Every P (where_true (eqb r.answer done) (units_listed n (answered good w))) × (InWork P) r.world) w good n
      (λ l s. (every-none P, i)) (λ l k s. (every-none P, i))
      (λ l k s. let all : (Covered P) n (answered good w) = run-covered n (answered good w) ((in-work-answered P) good w i) s in (all.units, all.rest)) s

  calls-covered : (cs : List Call) (w : World) → (InWork P) w → Every (There P) (openings cs w) → Every P (calls_units_listed cs w)
  unfolding openings calls_units_listed
  calls-covered [] w i s = every-none P
  calls-covered (c ∷ cs) w i s =
      let one : Every P (call_units_listed c w) × (InWork P) (after c w) = call-covered c w i (every_front (There P) _ _ s) in
      every-both P _ _ one.0 (calls-covered cs (after c w) one.1 (every_back (There P) (call_openings c w) _ s))

  pub in-work-at-first : (w : World) → Every P (listed_in_work w.state w.mem) → (InWork P) w
  in-work-at-first w i h = by-work w.state.work h i
    where
      by-work : (k : Work) → at_rest k ≡ false → Every P (in_work k (listed w.state w.mem)) → Every P (listed w.state w.mem)
      by-work resting h s = absurd (let z : ◌≡◌ {A = ℕ} 0 1 = cc in omega arith)
      by-work (entries o kept) h s = s
      by-work (packets j t at es held) h s = s
      by-work (waiting j es held) h s = s

  -- of any calls
  pub listed-covers : (cs : List Call) (w : World) → Every P (listed_in_work w.state w.mem) → Every (There P) (openings cs w) → Every P (calls_units_listed cs w)
  listed-covers cs w i s = calls-covered cs w (in-work-at-first w i) s
