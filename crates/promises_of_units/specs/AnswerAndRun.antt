-- Wish 6, "answer and carry on in one call": the one call is the two old ones, one after the other, and with an allowance of 0 it is the old
-- answer. "Answers 1 and 3 refuse the whole call, nothing run." Assumes nothing.
use Rattle.std.specs.Prelude.{◌≡◌, refl, Bool, true, false, ℕ}
use Rattle.machine.specs.Machine.{run_none}
use Rattle.rules.specs.Numbers.{done, other_memory, nothing_waits}
use Rattle.rules.specs.State.{World}
use Rattle.rules.specs.Steps.{step, go, waits, answered}
use Rattle.rules.specs.Calls.{not_run, lent_another, Ran, call_run, answer_alone, call_answer}
use Rattle.promises_of_units.specs.Runs.{of-answer}

-- ---- the old answer, by what is lent and what waits

module _ (w : World) (good : Bool) where
  pub refused-with-1 : lent_another w ≡ true → answer_alone w good ≡ record { answer = other_memory; world = w }
  unfolding answer_alone
  refused-with-1 e = rw e

  pub refused-with-3 : lent_another w ≡ false → waits w.state ≡ false → answer_alone w good ≡ record { answer = nothing_waits; world = w }
  unfolding answer_alone
  refused-with-3 e f = rw (e, f)

  pub taken-alone : lent_another w ≡ false → waits w.state ≡ true → answer_alone w good ≡ record { answer = done; world = answered good w }
  unfolding answer_alone
  taken-alone e f = rw (e, f)

-- ---- "it must equal the two old calls one after the other"

pub record IsBoth (w : World) (good : Bool) (n : ℕ) : Type 0 where
  -- where the old answer is taken, it is the old run of what that leaves, and this run is not refused
  pub taken : (answer_alone w good).answer ≡ done
      → (call_answer w good n ≡ call_run (answer_alone w good).world n) × ((call_answer w good n).answer ≡ done)
  -- else it is refused with the old answer's number: 0 units and idle, and nothing changes
  pub refused : ((answer_alone w good).answer ≡ done → ⊥) → call_answer w good n ≡ not_run (answer_alone w good).answer w

-- "an allowance of 0 is the old call": its answer and what it leaves; no unit is spent
pub allowance-0-is-the-old-call : (w : World) (good : Bool)
    → ((call_answer w good 0).answer ≡ (answer_alone w good).answer) × ((call_answer w good 0).world ≡ (answer_alone w good).world) × ((call_answer w good 0).units ≡ 0)
allowance-0-is-the-old-call w good =
    of-answer (λ (r : Ran). (r.answer ≡ (answer_alone w good).answer) × (r.world ≡ (answer_alone w good).world) × (r.units ≡ 0)) w good 0
    (λ e. rw (refused-with-1 w good e) (refl, refl, refl)) (λ e f. rw (refused-with-3 w good e f) (refl, refl, refl))
    (λ e f. rw (taken-alone w good e f, run_none go step (answered good w)) (refl, refl, refl))
