-- What events say: the completed fence, the error registers and the device's resources and tokens after any run and any calls are what the events
-- make of those before, one after the other. Nothing else changes them. Assumes nothing.
use Rattle.std.specs.Prelude.{◌≡◌, Bool, ℕ}
use Rattle.std.proofs.Math.Path.{refl}
use mathlib.Core.List.{List, [], ◌∷◌, ◌++◌}
use Rattle.rules.specs.Numbers.{bad_ring, no_place}
use Rattle.rules.specs.Judging.Finding.{fine, broken}
use Rattle.rules.specs.Shapes.{larger}
use Rattle.rules.specs.Packets.{Belongings}
use Rattle.rules.specs.State.{Work, State, World, with_state, working, registering, nothing_owned}
use Rattle.rules.specs.Registers.{reset}
use Rattle.rules.specs.Settle.{one_more, settled, settled_keeping, ring_refused, found_no_work}
use Rattle.rules.specs.declared.Job.{Job}
use Rattle.rules.specs.declared.Fault.{Fault}
use Rattle.rules.specs.declared.LastError.{LastError}
use Rattle.rules.specs.declared.Registers.{Registers}
use Rattle.promises_of_units.specs.Events.{Event}
use Rattle.promises_of_units.specs.Events.Event.{settling, ring_refusal, resetting}

-- what events make of something, one after the other
module _ {A : Type 0} (by : Event → A → A) where
  unfoldable pub through : List Event → A → A
  through [] a = a
  through (e ∷ es) a = through es (by e a)

  pub through-both : (es fs : List Event) (a : A) → through (es ++ fs) a ≡ through fs (through es a)
  unfolding through
  through-both [] fs a = refl
  through-both (e ∷ es) fs a = through-both es fs (by e a)

-- a part of a world that only events change, each as `by` says
pub record ChangedBy {A : Type 0} (by : Event → A → A) (part : World → A) : Type 0 where
  pub works : (k : Work) (w : World) → part (working k w) ≡ part w
  pub finds-nothing : (w : World) → part (found_no_work w) ≡ part w
  pub refuses-ring : (w : World) → part (ring_refused w) ≡ by ring_refusal (part w)
  pub settles-good : (j : Job) (owned : Belongings) (w : World) → part (settled j fine owned w) ≡ by (settling j fine owned (settled j fine owned w).state) (part w)
  pub settles-broken : (j : Job) (f : Fault) (owned : Belongings) (w : World)
      → part (settled_keeping j (broken f) w) ≡ by (settling j (broken f) owned (settled_keeping j (broken f) w).state) (part w)
  pub writes : (r : Registers) (w : World) → r.completed ≡ w.state.regs.completed → r.error ≡ w.state.regs.error → part (registering r w) ≡ part w
  pub resets : (enabled : Bool) (w : World) → part (with_state (reset enabled w.state) w) ≡ by resetting (part w)

-- "Completed = larger of completed and signal fence"; a reset makes it zero; nothing else changes it
abbrev pub completed_by : Event → ℕ → ℕ
completed_by (settling j v owned s) completed = larger completed j.signal
completed_by ring_refusal completed = completed
completed_by resetting completed = 0

-- the error registers that a broken rule leaves: its number, its place and the signal fence, set together whatever stood there
abbrev pub told : Job → Fault → LastError → LastError
told j f error = record { code = f.code; fence = j.signal; count = one_more error.count; detail = f.place }

-- a broken rule tells itself, and a bad ring with fence and place 0; a reset lets the last error stay
abbrev pub error_by : Event → LastError → LastError
error_by (settling j fine owned s) error = error
error_by (settling j (broken f) owned s) error = told j f error
error_by ring_refusal error = record { code = bad_ring; fence = 0; count = one_more error.count; detail = no_place }
error_by resetting error = error

-- the device's resources and tokens: a good answer gives it the submission's, a reset leaves none; nothing else changes them
abbrev pub belongings_by : Event → Belongings → Belongings
belongings_by (settling j fine owned s) before = owned
belongings_by (settling j (broken f) owned s) before = before
belongings_by ring_refusal before = before
belongings_by resetting before = nothing_owned

pub belongings-changed : ChangedBy belongings_by (λ w. w.state.belongings)
unfolding settled reset
belongings-changed =
    record {
      works = λ k w. refl;
      finds-nothing = λ w. refl;
      refuses-ring = λ w. refl;
      settles-good = λ j owned w. refl;
      settles-broken = λ j f owned w. refl;
      writes = λ r w d e. refl;
      resets = λ enabled w. refl;
    }

-- what stands after some events, by what stood before them
pub record Says (s : State) (es : List Event) (s' : State) : Type 0 where
  pub completed : s'.regs.completed ≡ through completed_by es s.regs.completed
  pub error : s'.regs.error ≡ through error_by es s.regs.error
  pub belongings : s'.belongings ≡ through belongings_by es s.belongings
