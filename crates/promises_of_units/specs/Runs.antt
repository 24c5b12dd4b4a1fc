-- How far a run goes, called alone or after an answer: never past its allowance, and never short of it while a unit is due. What is true
-- of each way that such a call can come out is true of the call. Assumes nothing.
use Rattle.std.specs.Prelude.{◌≡◌, true, false, not, ◌&&◌, ◌||◌, ◌⊎◌, ℕ, zero, suc, ◌≤◌}
use Rattle.std.proofs.Math.Path.{refl}
use Rattle.std.proofs.Common.{sym, ◌∙◌, inl, inr, arith}
use Rattle.std.proofs.Math.Bool.{Bool}
use Rattle.machine.specs.Machine.{pick, run_none, run-stop, run-go}
use Rattle.machine.specs.Within.{units-room}
use Rattle.rules.specs.Numbers.{done, other_memory, nothing_waits}
use Rattle.rules.specs.State.{Work, World}
use Rattle.rules.specs.State.Work.{resting, entries, packets, waiting}
use Rattle.rules.specs.Steps.{busy, step, go, run_for, waits_on, waits, answered}
use Rattle.rules.specs.Calls.{not_run, lent_another, at_rest, ending, Ran, ran, call_run, Answered, answer_alone, and_run, call_answer}
use Rattle.rules.specs.declared.Ended.TheVariants.{Idle, Waiting, Paused}
use Rattle.settle.specs.Only.{answered-is-lent-alike}

-- what is true of a refused run and of one that ran is true of the call
module _ (P : Ran → Type 0) (w : World) (n : ℕ) where
  by-lent : (b : Bool) → lent_another w ≡ b → (lent_another w ≡ true → P (not_run other_memory w))
      → (lent_another w ≡ false → P (ran (run_for n w))) → P (pick b (not_run other_memory w) (ran (run_for n w)))
  by-lent true e p q = p e
  by-lent false e p q = q e

  pub of-run : (lent_another w ≡ true → P (not_run other_memory w)) → (lent_another w ≡ false → P (ran (run_for n w))) → P (call_run w n)
  unfolding call_run
  of-run p q = by-lent (lent_another w) refl p q

-- what is true of an answer that is refused with 1, of one refused with 3, and of one that is taken and then run, is true of the call
module _ (P : Ran → Type 0) (w : World) (good : Bool) (n : ℕ) where
  pub of-answer : (lent_another w ≡ true → P (not_run other_memory w))
      → (lent_another w ≡ false → waits w.state ≡ false → P (not_run nothing_waits w))
      → (lent_another w ≡ false → waits w.state ≡ true → P (ran (run_for n (answered good w)))) → P (call_answer w good n)
  unfolding call_answer answer_alone
  of-answer p q r = by_tests (lent_another w) (waits w.state) refl refl
    where
      reply : Bool → Bool → Answered
      reply a b =
          pick a (record { answer = other_memory; world = w })
          (pick b (record { answer = done; world = answered good w }) (record { answer = nothing_waits; world = w }))

      by_tests : (a b : Bool) → lent_another w ≡ a → waits w.state ≡ b → P (and_run (reply a b) n)
      by_tests true b e f = p e
      by_tests false true e f =
          of-run P (answered good w) n
          (λ l. absurd (let y : true ≡ false = sym l ∙ (answered-is-lent-alike good w ∙ e) in let z : ◌≡◌ {A = ℕ} 0 1 = cc in omega arith)) (λ l. r e f)
      by_tests false false e f = q e f

-- an answer that is lent the device's memory while a submission waits is taken
pub taken-and-run : (w : World) (good : Bool) (n : ℕ) → lent_another w ≡ false → waits w.state ≡ true
    → call_answer w good n ≡ ran (run_for n (answered good w))
taken-and-run w good n e f =
    of-answer (λ (r : Ran). r ≡ ran (run_for n (answered good w))) w good n (λ l. absurd (let z : ◌≡◌ {A = ℕ} 0 1 = cc in omega arith))
    (λ l k. absurd (let z : ◌≡◌ {A = ℕ} 0 1 = cc in omega arith)) (λ l k. refl)

-- a run that goes on while it may
spends-all : (n : ℕ) (w : World) → go (run_for n w).state ≡ true → (run_for n w).units ≡ n
spends-all zero w g = rw (run_none go step w)
spends-all (suc n) w g = by_test (go w) refl (spends-all n (step w))
  where
    by_test : (b : Bool) → go w ≡ b → (go (run_for n (step w)).state ≡ true → (run_for n (step w)).units ≡ n) → (run_for (suc n) w).units ≡ suc n
    by_test true h later =
        let on : go (run_for n (step w)).state ≡ true = rw (run-go go step n w h) at g in
        rw (run-go go step n w h, later on) (omega arith)
    by_test false h later =
        let off : go w ≡ true = rw (run-stop go step (suc n) w h) at g in
        absurd (let z : ◌≡◌ {A = ℕ} 0 1 = cc in omega arith)

all-or-is-done : (w : World) (n : ℕ) → ((run_for n w).units ≡ n) ⊎ (go (run_for n w).state ≡ false)
all-or-is-done w n = by_test (go (run_for n w).state) refl
  where
    by_test : (b : Bool) → go (run_for n w).state ≡ b → ((run_for n w).units ≡ n) ⊎ (go (run_for n w).state ≡ false)
    by_test true g = inl (spends-all n w g)
    by_test false g = inr g

-- a run never spends more than it was allowed
pub never-more-than-allowed : (w : World) (n : ℕ) → (call_run w n).units ≤ n
never-more-than-allowed w n = of-run (λ (r : Ran). r.units ≤ n) w n (λ e. omega arith) (λ e. units-room go step n w)

-- and a refused one spends nothing
pub refused-run-spends-nothing : (w : World) (n : ℕ) → lent_another w ≡ true → (call_run w n).units ≡ 0
refused-run-spends-nothing w n h = of-run (λ (r : Ran). r.units ≡ 0) w n (λ e. refl) (λ e. absurd (let z : ◌≡◌ {A = ℕ} 0 1 = cc in omega arith))

-- over a memory of the device's own length a run has spent all of its allowance, or nothing is due where it stopped
pub run-spends-all-or-is-done : (w : World) (n : ℕ) → lent_another w ≡ false → ((call_run w n).units ≡ n) ⊎ (go (call_run w n).world ≡ false)
run-spends-all-or-is-done w n h =
    of-run (λ (r : Ran). (r.units ≡ n) ⊎ (go r.world ≡ false)) w n (λ e. absurd (let z : ◌≡◌ {A = ℕ} 0 1 = cc in omega arith))
    (λ e. all-or-is-done w n)

-- what is paused goes on as soon as it may
paused-on : (e r : Bool) (k : Work) → pick (waits_on k) Waiting (pick (not e || (not r && at_rest k)) Idle Paused) ≡ Paused → e && busy r k ≡ true
paused-on true true resting h = refl
paused-on true false resting h = absurd (let z : ◌≡◌ {A = ℕ} 0 1 = cc in omega arith)
paused-on false r resting h = absurd (let z : ◌≡◌ {A = ℕ} 0 1 = cc in omega arith)
paused-on true r (entries o kept) h = refl
paused-on false r (entries o kept) h = absurd (let z : ◌≡◌ {A = ℕ} 0 1 = cc in omega arith)
paused-on true r (packets j s at es held) h = refl
paused-on false r (packets j s at es held) h = absurd (let z : ◌≡◌ {A = ℕ} 0 1 = cc in omega arith)
paused-on e r (waiting j es held) h = absurd (let z : ◌≡◌ {A = ℕ} 0 1 = cc in omega arith)

paused-all : (w : World) (n : ℕ) → ending (run_for n w).state.state ≡ Paused → (run_for n w).units ≡ n
unfolding ending go
paused-all w n h =
    spends-all n w (paused-on (run_for n w).state.state.regs.enabled (run_for n w).state.state.regs.doorbell (run_for n w).state.state.work h)

-- a run that ended paused has spent all of its allowance
pub paused-spent-all : (w : World) (n : ℕ) → (call_run w n).ended ≡ Paused → (call_run w n).units ≡ n
paused-spent-all w n =
    of-run (λ (r : Ran). r.ended ≡ Paused → r.units ≡ n) w n (λ e h. absurd (let z : ◌≡◌ {A = ℕ} 0 1 = cc in omega arith)) (λ e h. paused-all w n h)

-- ---- the same of an answer and the run after it

pub answer-never-more-than-allowed : (w : World) (good : Bool) (n : ℕ) → (call_answer w good n).units ≤ n
answer-never-more-than-allowed w good n =
    of-answer (λ (r : Ran). r.units ≤ n) w good n (λ e. omega arith) (λ e f. omega arith) (λ e f. units-room go step n (answered good w))

pub answer-spends-all-or-is-done : (w : World) (good : Bool) (n : ℕ) → (call_answer w good n).answer ≡ done
    → ((call_answer w good n).units ≡ n) ⊎ (go (call_answer w good n).world ≡ false)
answer-spends-all-or-is-done w good n =
    of-answer (λ (r : Ran). r.answer ≡ done → (r.units ≡ n) ⊎ (go r.world ≡ false)) w good n
    (λ e h. absurd (omega arith)) (λ e f h. absurd (omega arith)) (λ e f h. all-or-is-done (answered good w) n)

pub answer-paused-spent-all : (w : World) (good : Bool) (n : ℕ) → (call_answer w good n).ended ≡ Paused → (call_answer w good n).units ≡ n
answer-paused-spent-all w good n =
    of-answer (λ (r : Ran). r.ended ≡ Paused → r.units ≡ n) w good n (λ e h. absurd (let z : ◌≡◌ {A = ℕ} 0 1 = cc in omega arith))
    (λ e f h. absurd (let z : ◌≡◌ {A = ℕ} 0 1 = cc in omega arith)) (λ e f h. paused-all (answered good w) n h)
