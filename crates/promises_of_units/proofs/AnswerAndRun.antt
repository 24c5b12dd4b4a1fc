-- The theorems of specs/AnswerAndRun.antt, and what they rest on. Assumes nothing.
use Rattle.std.specs.Prelude.{◌≡◌, refl, Bool, ℕ}
use Rattle.std.proofs.Common.{sym, ap, ◌∙◌, arith, eq-eqb}
use Rattle.machine.specs.Machine.{pick}
use Rattle.rules.specs.Numbers.{done}
use Rattle.rules.specs.State.{World}
use Rattle.rules.specs.Calls.{not_run, Ran, call_run, Answered, answer_alone, call_answer}
use Rattle.promises_of_units.specs.Runs.{of-answer}
use Rattle.promises_of_units.specs.AnswerAndRun.{IsBoth, refused-with-1, refused-with-3, taken-alone}

-- ---- "it must equal the two old calls one after the other"

pub answer-and-run-is-both : (w : World) (good : Bool) (n : ℕ) → IsBoth w good n
unfolding call_answer
answer-and-run-is-both w good n =
    record {
      taken = λ h. (
        ap (λ b. pick b (call_run (answer_alone w good).world n) (not_run (answer_alone w good).answer (answer_alone w good).world)) (eq-eqb _ _ h),
        of-answer (λ (r : Ran). r.answer ≡ done) w good n
            (λ e. absurd (let z : ◌≡◌ {A = ℕ} 0 1 = sym h ∙ ap (λ (a : Answered). a.answer) (refused-with-1 w good e) in omega arith))
            (λ e f. absurd (let z : ◌≡◌ {A = ℕ} 0 3 = sym h ∙ ap (λ (a : Answered). a.answer) (refused-with-3 w good e f) in omega arith)) (λ e f. refl),
      );
      refused = λ h.
          of-answer (λ (r : Ran). r ≡ not_run (answer_alone w good).answer w) w good n
          (λ e. ap (λ (a : Answered). not_run a.answer w) (sym (refused-with-1 w good e)))
          (λ e f. ap (λ (a : Answered). not_run a.answer w) (sym (refused-with-3 w good e f)))
          (λ e f. absurd (h (ap (λ (a : Answered). a.answer) (taken-alone w good e f))));
    }
