-- A whole submission over two memories that agree on what it lists: as many units, the same at each, and the same in the end. Assumes nothing.
use Rattle.std.specs.Prelude.{◌≡◌, true, false, List, length}
use Rattle.std.proofs.Common.{sym, ap, subst, ◌∙◌, ⊎_elim, arith}
use Prim.Native.Nat.{ℕ, suc, ◌≤◌, ◌<◌}
use Rattle.machine.specs.Machine.{Out}
use Rattle.rules.specs.State.{State, World}
use Rattle.rules.specs.State.Work.{resting}
use Rattle.rules.specs.Steps.{go, run_for}
use Rattle.rules.specs.Unsliced.{submitted}
use Rattle.rules.specs.Listed.{submission_listed}
use Rattle.words.specs.Over.{below_or_not}
use Rattle.promises_of_submissions.specs.Reads.{AgreeOn}
use Rattle.promises_of_submissions.specs.Whole.{midst}
use Rattle.promises_of_submissions.specs.Submission.{Submits}
use Rattle.promises_of_submissions.proofs.Submission.{submits}
use Rattle.promises_of_submissions.specs.Locality.{lent}
use Rattle.promises_of_leftovers.specs.Course.{SameUnits}
use Rattle.promises_of_leftovers.specs.UpTo.{clash, not-midst}
use Rattle.promises_of_leftovers.proofs.UpTo.{each-unit}

-- ---- the units of one submission, and the unsliced rules

module _ (s : State) (m m' : List ℕ) (len : length m ≡ length m') (rest : s.work ≡ resting) (due : go (lent s m) ≡ true)
    (same : AgreeOn m m' (submission_listed m s.regs.ring s.regs.ringsize)) where
  -- and the submission as a whole, by the unsliced rules: the same number of units, and the same end
  pub whole-submission : SameUnits (lent s m) (lent s m') (submitted (lent s m)) (submitted (lent s m'))
  unfolding go
  whole-submission = by_count as_many
    where
      u : ℕ
      u = (submitted (lent s m)).units

      u' : ℕ
      u' = (submitted (lent s m')).units

      mine : Submits (lent s m) (submitted (lent s m))
      mine = submits (lent s m) rest due

      other : Submits (lent s m') (submitted (lent s m'))
      other = submits (lent s m') rest due

      -- after the same units both have the same in work
      work-at : (n : ℕ) → n ≤ u → midst (run_for n (lent s m)).state.state.work ≡ midst (run_for n (lent s m')).state.state.work
      work-at n h = ap (λ (x : State). midst x.work) ((each-unit s m m' len rest due same) n h).end.state

      ended : (l : List ℕ) → midst (submitted (lent s l)).state.state.work ≡ false
      ended l = not-midst (lent s l) rest

      not-before : u < u' → ⊥
      not-before h =
          clash (sym (work-at u (omega arith)) ∙ (ap (λ (o : Out World). midst o.state.state.work) mine.ends ∙ ended m)) (other.inside u mine.some h)

      not_after : u' < u → ⊥
      not_after h =
          clash (work-at u' (omega arith) ∙ (ap (λ (o : Out World). midst o.state.state.work) other.ends ∙ ended m')) (mine.inside u' other.some h)

      as_many : u ≡ u'
      as_many = ⊎_elim (λ h. absurd (not-before h)) (λ h. ⊎_elim (λ k. absurd (not_after k)) (λ k. omega arith) (below_or_not u' u)) (below_or_not u u')

      by_count : u ≡ u' → SameUnits (lent s m) (lent s m') (submitted (lent s m)) (submitted (lent s m'))
      by_count e =
          subst (λ (o : Out World). SameUnits (lent s m) (lent s m') o (submitted (lent s m'))) mine.ends
          (subst (λ (o : Out World). SameUnits (lent s m) (lent s m') (run_for u (lent s m)) o) (ap (λ (n : ℕ). run_for n (lent s m')) e ∙ other.ends) ((each-unit s m m' len rest due same) u (omega arith)))
