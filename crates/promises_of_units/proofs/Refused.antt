-- The theorems of specs/Refused.antt, and what they rest on. Assumes nothing.
use Rattle.std.specs.Prelude.{◌≡◌, Bool, ℕ}
use Rattle.std.proofs.Common.{sym, subst}
use Rattle.rules.specs.Numbers.{done}
use Rattle.rules.specs.State.{State, World}
use Rattle.rules.specs.Registers.{reset_registers, reset}
use Rattle.rules.specs.Steps.{answered}
use Rattle.rules.specs.Calls.{call_write, Ran, call_run, call_answer}
use Rattle.rule_laws.specs.Created.{SoundError}
use Rattle.promises_of_units.specs.Writes.{Written, write-keeps-or-drops}
use Rattle.promises_of_units.specs.Writes.Written.{keeps, drops}
use Rattle.promises_of_units.specs.Runs.{of-run, of-answer}
use Rattle.promises_of_units.specs.Sound.{SoundState}
use Rattle.promises_of_units.proofs.Sound.{run-keeps-sound, answer-keeps-sound, made-sound}

-- ---- soundness, kept by every call

pub run-call-keeps-sound : (w : World) (n : ℕ) → SoundState w.state → SoundState (call_run w n).world.state
run-call-keeps-sound w n s = of-run (λ (r : Ran). SoundState r.world.state) w n (λ e. s) (λ e. run-keeps-sound n w s)

pub answer-call-keeps-sound : (w : World) (good : Bool) (n : ℕ) → SoundState w.state → SoundState (call_answer w good n).world.state
answer-call-keeps-sound w good n s =
    of-answer (λ (r : Ran). SoundState r.world.state) w good n (λ e. s) (λ e f. s)
    (λ e f. run-keeps-sound n (answered good w) (answer-keeps-sound good w s))

-- a write keeps it: it changes registers alone and not the last error, or drops everything but that
written-sound : (s s' : State) (offset v : ℕ) → SoundState s → Written s offset v s' → SoundState s'
unfolding reset reset_registers
written-sound s s' offset v k = by-written s'
  where
    by-written : (x : State) → Written s offset v x → SoundState x
    by-written x (keeps r n c e) = record { belongings = k.belongings; work = k.work; error = subst SoundError (sym e) k.error }
    by-written x (drops h) = record { belongings = (made-sound 0).belongings; work = (made-sound 0).work; error = k.error }

pub write-call-keeps-sound : (s : State) (offset v : ℕ) → SoundState s → SoundState (call_write s offset v).state
write-call-keeps-sound s offset v k = written-sound s (call_write s offset v).state offset v k (write-keeps-or-drops s offset v)
