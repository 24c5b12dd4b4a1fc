-- The theorems of specs/UpTo.antt, and what they rest on. Assumes nothing.
use Rattle.std.specs.Prelude.{◌≡◌, refl, true, List, [], ◌∷◌, length}
use Rattle.std.proofs.Common.{arith}
use Prim.Native.Nat.{ℕ, suc, ◌≤◌}
use Rattle.rules.specs.State.{Work, State, World}
use Rattle.rules.specs.State.Work.{resting, entries, packets, waiting}
use Rattle.rules.specs.Steps.{go, run_for}
use Rattle.rules.specs.Unsliced.{submitted}
use Rattle.rules.specs.Listed.{submission_listed, listed}
use Rattle.promises_of_packets.specs.Held.{Every, every-none}
use Rattle.promises_of_submissions.specs.Reads.{AgreeOn, SameIn}
use Rattle.promises_of_submissions.proofs.Submission.{submits}
use Rattle.promises_of_submissions.specs.Locality.{lent}
use Rattle.promises_of_units.specs.Called.{Call}
use Rattle.promises_of_leftovers.specs.Course.{SameUnits}
use Rattle.promises_of_leftovers.proofs.Course.{run-alike}
use Rattle.promises_of_leftovers.specs.Submissions.{openings, listed_there, in_work, There, no-work}
use Rattle.promises_of_leftovers.proofs.Submissions.{run-covered}
use Rattle.promises_of_leftovers.specs.Matter.{SameResults}
use Rattle.promises_of_leftovers.proofs.Matter.{bytes-not-listed-cannot-matter}
use Rattle.promises_of_leftovers.specs.UpTo.{Before, one-opened}

-- ---- calls whose openings all come before a settling: each opening finds the memory first lent, and the ring where it was

each-before : (s : State) (m m' : List ℕ) → AgreeOn m m' (submission_listed m s.regs.ring s.regs.ringsize) → (vs : List World) → Every (Before s m) vs
    → Every (λ (v : World). AgreeOn m m' (listed_there v)) vs
unfolding Every
each-before s m m' same [] h = h
each-before s m m' same (v ∷ vs) h = (rw (h.0.0, h.0.1.0, h.0.1.1) same, each-before s m m' same vs h.1)

module _ (s : State) (m m' : List ℕ) (len : length m ≡ length m') where
  -- a device at rest: "up to each settling" of the next submission
  pub up-to-the-settling : s.work ≡ resting → AgreeOn m m' (submission_listed m s.regs.ring s.regs.ringsize)
      → (cs : List Call) → Every (Before s m) (openings cs (lent s m)) → SameResults cs s m m'
  up-to-the-settling rest same cs before =
      bytes-not-listed-cannot-matter cs s m m' (record { as_long = len; in_work = rw rest (every-none (SameIn m m')); opened = each-before s m m' same (openings cs (lent s m)) before })

  -- a device with a submission in work, for as long as no other is opened
  pub while-it-is-in-work : AgreeOn m m' (listed s m) → (cs : List Call) → openings cs (lent s m) ≡ [] → SameResults cs s m m'
  while-it-is-in-work same cs no_other =
      bytes-not-listed-cannot-matter cs s m m' (record { as_long = len; in_work = by-work s.work; opened = rw no_other (every-none (λ (v : World). AgreeOn m m' (listed_there v))) })
    where
      by-work : (k : Work) → AgreeOn m m' (in_work k (listed s m))
      by-work resting = every-none (SameIn m m')
      by-work (entries o kept) = same
      by-work (packets j t at es h) = same
      by-work (waiting j es h) = same

-- ---- the units of one submission, and the unsliced rules

module _ (s : State) (m m' : List ℕ) (len : length m ≡ length m') (rest : s.work ≡ resting) (due : go (lent s m) ≡ true)
    (same : AgreeOn m m' (submission_listed m s.regs.ring s.regs.ringsize)) where
  -- each unit of the submission, up to and with its last
  pub each-unit : (n : ℕ) → n ≤ (submitted (lent s m)).units → SameUnits (lent s m) (lent s m') (run_for n (lent s m)) (run_for n (lent s m'))
  each-unit n h =
      run-alike n (lent s m) (lent s m') refl len
      (run-covered (SameIn m m') n (lent s m) (no-work (SameIn m m') (lent s m) rest)
      (one-opened n (lent s m) rest due (λ i some b. (submits (lent s m) rest due).inside i some (omega arith)) (There (SameIn m m')) same)).units
