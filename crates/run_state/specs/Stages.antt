-- What is in work, by the tag that its code tests. Assumes nothing.
use Rattle.std.specs.Prelude.{◌≡◌, Bool, List, [], ℕ, ◌≤◌, ◌<◌, eqb}
use Rattle.std.proofs.Math.Path.{refl}
use Rattle.std.proofs.Math.Bool.{true, false}
use native.Mathlib.Omega.{arith}
use borrow.Author.Tests.{ne_eqb, eqb-false}
use Rattle.machine.specs.Machine.{pick}
use Rattle.rules.specs.State.{Work}
use Rattle.rules.specs.State.Work.{resting, entries, packets, waiting}
use Rattle.rules.specs.Steps.{waits_on}
use Rattle.rules.specs.Calls.{at_rest, handed_out}
use Rattle.run_state.specs.Views.{tag_in, opened_in, job_in, stream_in, place_in, kept_in, held_in, world_in}

module _ (s e r h dt ot c m : List ℕ) where
  pub rests-in : tag_in s ≡ 0 → (world_in s e r h dt ot c m).state.work ≡ resting
  unfolding world_in
  rests-in i = rw i

  pub waits_in : 3 ≤ tag_in s → (world_in s e r h dt ot c m).state.work ≡ waiting (job_in s) (kept_in s e) (held_in s r h dt ot c)
  unfolding world_in
  waits_in i = rw (ne_eqb (tag_in s) 0 (λ q. omega arith), ne_eqb (tag_in s) 1 (λ q. omega arith), ne_eqb (tag_in s) 2 (λ q. omega arith))

  module _ {A : Type 0} (f : Work → A) (x : A) (none : f resting ≡ x) (some : f (entries (opened_in s) (kept_in s e)) ≡ x)
      (more : f (packets (job_in s) (stream_in s) (place_in s) (kept_in s e) (held_in s r h dt ot c)) ≡ x) where
    -- what is said of all work but a waiting one holds below tag 3
    below : tag_in s < 3 → f (world_in s e r h dt ot c m).state.work ≡ x
    unfolding world_in
    below low = by_tests (eqb (tag_in s) 0) (eqb (tag_in s) 1) (eqb (tag_in s) 2) refl refl refl
      where
        gone : (tag_in s ≡ 0 → ⊥) → (tag_in s ≡ 1 → ⊥) → (tag_in s ≡ 2 → ⊥) → ⊥
        gone i j k = omega arith

        by_tests : (x' y z : Bool) → eqb (tag_in s) 0 ≡ x' → eqb (tag_in s) 1 ≡ y → eqb (tag_in s) 2 ≡ z
            → f (pick x' resting (pick y (entries (opened_in s) (kept_in s e)) (pick z (packets (job_in s) (stream_in s) (place_in s) (kept_in s e) (held_in s r h dt ot c)) (waiting (job_in s) (kept_in s e) (held_in s r h dt ot c))))) ≡ x
        by_tests true y z p q u = none
        by_tests false true z p q u = some
        by_tests false false true p q u = more
        by_tests false false false p q u = absurd (gone (eqb-false (tag_in s) 0 p) (eqb-false (tag_in s) 1 q) (eqb-false (tag_in s) 2 u))

  pub works-on : tag_in s < 3 → waits_on (world_in s e r h dt ot c m).state.work ≡ false
  works-on = below waits_on false refl refl refl

  pub outs-in : tag_in s < 3 → handed_out (world_in s e r h dt ot c m).state.work ≡ []
  outs-in = below handed_out [] refl refl refl

  pub works-in : (tag_in s ≡ 0 → ⊥) → at_rest (world_in s e r h dt ot c m).state.work ≡ false
  unfolding world_in
  works-in n = rw (ne_eqb (tag_in s) 0 n) (by_tests (eqb (tag_in s) 1) (eqb (tag_in s) 2))
    where
      by_tests : (y z : Bool) → at_rest (pick y (entries (opened_in s) (kept_in s e)) (pick z (packets (job_in s) (stream_in s) (place_in s) (kept_in s e) (held_in s r h dt ot c)) (waiting (job_in s) (kept_in s e) (held_in s r h dt ot c)))) ≡ false
      by_tests true z = refl
      by_tests false true = refl
      by_tests false false = refl
