-- A run with more units than the submission has is the submission and a run of the rest. Assumes nothing.
use Rattle.std.specs.Prelude.{◌≡◌}
use Rattle.std.proofs.Common.{ap, ◌∙◌}
use Rattle.std.proofs.Math.Bool.{true}
use Prim.Native.Nat.{ℕ, ◌+◌, ◌≤◌}
use Rattle.machine.specs.Machine.{Out, spent, sliced}
use Rattle.rules.specs.Ring.{present}
use Rattle.rules.specs.State.{World}
use Rattle.rules.specs.State.Work.{resting}
use Rattle.rules.specs.Steps.{step, go, run_for}
use Rattle.rules.specs.Unsliced.{submitted}
use Rattle.promises_of_submissions.proofs.Submission.{whole}

-- ---- from the opening on

-- and a run that goes on from there: a submission's units are the unsliced count, and the rest is spent on what comes next
pub run-through : (w : World) (n : ℕ) → w.state.work ≡ resting → go w ≡ true → run_for ((submitted w).units + n) w ≡ spent (submitted w).units (run_for n (submitted w).state)
run-through w n rest g = sliced go step (submitted w).units n w ∙ ap (λ (o : Out World). spent o.units (run_for n o.state)) (whole w rest g)
