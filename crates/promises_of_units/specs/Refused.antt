-- Demand 1: a refused call gives its number and changes no state and no byte; every call keeps the device sound. Assumes nothing.
use Rattle.std.specs.Prelude.{◌≡◌, refl, Bool, ℕ}
use Rattle.rules.specs.Numbers.{done}
use Rattle.rules.specs.Lists.{Found}
use Rattle.rules.specs.Lists.Found.{none, found}
use Rattle.rules.specs.State.{State, World}
use Rattle.rules.specs.Registers.{Write, write_of}
use Rattle.rules.specs.Steps.{answered}
use Rattle.rules.specs.Calls.{wrote, call_write, Ran, call_run, call_answer}
use Rattle.promises_of_units.specs.Runs.{of-run, of-answer}
use Rattle.promises_of_units.specs.Sound.{SoundState}

-- ---- refused calls

pub refused-run-changes-nothing : (w : World) (n : ℕ) → ((call_run w n).answer ≡ done → ⊥) → (call_run w n).world ≡ w
refused-run-changes-nothing w n = of-run (λ (r : Ran). (r.answer ≡ done → ⊥) → r.world ≡ w) w n (λ e h. refl) (λ e h. absurd (h refl))

pub refused-answer-changes-nothing : (w : World) (good : Bool) (n : ℕ) → ((call_answer w good n).answer ≡ done → ⊥) → (call_answer w good n).world ≡ w
refused-answer-changes-nothing w good n =
    of-answer (λ (r : Ran). (r.answer ≡ done → ⊥) → r.world ≡ w) w good n (λ e h. refl) (λ e f h. refl) (λ e f h. absurd (h refl))

pub refused-write-changes-nothing : (s : State) (offset v : ℕ) → ((call_write s offset v).answer ≡ done → ⊥) → (call_write s offset v).state ≡ s
unfolding call_write
refused-write-changes-nothing s offset v = by_found (write_of s offset v)
  where
    by_found : (f : Found Write) → ((wrote s f).answer ≡ done → ⊥) → (wrote s f).state ≡ s
    by_found none h = refl
    by_found (found x) h = absurd (h refl)
