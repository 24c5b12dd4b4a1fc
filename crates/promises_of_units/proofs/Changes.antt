-- The theorems of specs/Changes.antt, and what they rest on. Assumes nothing.
use Rattle.std.specs.Prelude.{◌≡◌, Bool, true, false, ℕ}
use Rattle.std.proofs.Math.Path.{refl, sym, ap}
use Rattle.std.proofs.Common.{◌∙◌}
use mathlib.Core.List.{List}
use Rattle.rules.specs.Numbers.{no_place}
use Rattle.rules.specs.Judging.{without_place}
use Rattle.rules.specs.Packets.{Progress, Belongings, left_by}
use Rattle.rules.specs.State.{State, World}
use Rattle.rules.specs.State.Work.{waiting}
use Rattle.rules.specs.Registers.{bit_of, reset_registers, reset}
use Rattle.rules.specs.Settle.{one_more, faulted, signalled, doorbell_cleared, ended_by, settled}
use Rattle.rules.specs.Steps.{answered}
use Rattle.rules.specs.declared.Entry.{Entry}
use Rattle.rules.specs.declared.Job.{Job}
use Rattle.rules.specs.declared.LastError.{LastError}
use Rattle.rules.specs.declared.Refusal.TheVariants.{HostFailed}
use Rattle.promises_of_units.specs.Fences.{good-settles, failed-settles}
use Rattle.promises_of_units.specs.Called.{Call}
use Rattle.promises_of_units.specs.Units.{Unit}
use Rattle.promises_of_units.specs.Units.Unit.{works-on, finds-bad-ring, finds-no-work, settles}
use Rattle.promises_of_units.specs.Events.{Event, finding_of, events_of_unit, Units, Happens, History, Life}
use Rattle.promises_of_units.specs.Events.Event.{settling, resetting}
use Rattle.promises_of_units.specs.Events.Units.{stop, one}
use Rattle.promises_of_units.specs.Events.Happens.{refused-write, refused-run, refused-answer, asks-register, asks-record, changes-registers, resets-all, spends, settles-answered}
use Rattle.promises_of_units.specs.Events.History.{no_call, next_call}
use Rattle.promises_of_units.specs.Events.Life.{begins, lives}
use Rattle.promises_of_units.specs.Changes.{ChangedBy, Says, belongings-changed, belongings_by, completed_by, error_by, through, through-both}

module _ {A : Type 0} {by : Event → A → A} {part : World → A} (c : ChangedBy by part) where
  unit-through : (w w' : World) (u : Unit w w') → part w' ≡ through by (events_of_unit u) (part w)
  unfolding through
  unit-through w w' (works-on next h) = c.works next w
  unit-through w w' (finds-bad-ring e h) = c.refuses-ring w
  unit-through w w' (finds-no-work e h) = c.finds-nothing w
  unit-through w w' (settles j f h) = c.settles-broken j f w.state.belongings w

  pub units-through : (w : World) (es : List Event) (w' : World) → Units w es w' → part w' ≡ through by es (part w)
  unfolding through
  units-through w es w' stop = refl
  units-through w es w' (one {w' = v} {es = fs} g u q) =
      units-through v fs w' q ∙ (ap (through by fs) (unit-through w v u) ∙ sym (through-both by (events_of_unit u) fs (part w)))

  answer-through : (good : Bool) (w : World) (j : Job) (es : List Entry) (h : Progress) → w.state.work ≡ waiting j es h
      → part (answered good w) ≡ by (settling j (finding_of good) (left_by h) (answered good w).state) (part w)
  answer-through true w j es h e = rw (good-settles w j es h e) (c.settles-good j (left_by h) w)
  answer-through false w j es h e = rw (failed-settles w j es h e) (c.settles-broken j (without_place HostFailed) (left_by h) w)

  call-through : (w : World) (k : Call) (es : List Event) (w' : World) → Happens w k es w' → part w' ≡ through by es (part w)
  unfolding through
  call-through w k es w' (refused-write offset v h) = refl
  call-through w k es w' (refused-run n h) = refl
  call-through w k es w' (refused-answer good n h) = refl
  call-through w k es w' (asks-register offset) = refl
  call-through w k es w' (asks-record i) = refl
  call-through w k es w' (changes-registers offset v r n q d e) = c.writes r w d e
  call-through w k es w' (resets-all offset v h q) = c.resets (bit_of 0 v) w
  call-through w k es w' (spends n d u) = units-through w es w' u
  call-through w k es w' (settles-answered good n j table h {fs = fs} l e u) =
      units-through (answered good w) fs w' u ∙ ap (through by fs) (answer-through good w j table h e)

  pub calls-through : (w : World) (cs : List Call) (es : List Event) (w' : World) → History w cs es w' → part w' ≡ through by es (part w)
  unfolding through
  calls-through w cs es w' no_call = refl
  calls-through w cs es w' (next_call {w' = v} {c = k} {cs = ks} {es = here} {fs = later} d q) =
      calls-through v ks later w' q ∙ (ap (through by later) (call-through w k here v d) ∙ sym (through-both by here later (part w)))

-- where each call may be lent another memory, of parts that are none of it
module _ {A : Type 0} (by : Event → A → A) (part : State → A) (c : ChangedBy by (λ w. part w.state)) where
  life-through : (s : State) (cs : List Call) (es : List Event) (s' : State) → Life s cs es s' → part s' ≡ through by es (part s)
  unfolding through
  life-through s cs es s' begins = refl
  life-through s cs es s' (lives {t = t} {w' = w'} {c = k} {cs = ks} {es = before} {fs = here} q m d) =
      call-through c (record { state = t; mem = m }) k here w' d
      ∙ (ap (through by here) (life-through s ks before t q) ∙ sym (through-both by before here (part s)))

completed-changed : ChangedBy completed_by (λ w. w.state.regs.completed)
unfolding settled ended_by signalled faulted doorbell_cleared reset reset_registers
completed-changed =
    record {
      works = λ k w. refl;
      finds-nothing = λ w. refl;
      refuses-ring = λ w. refl;
      settles-good = λ j owned w. refl;
      settles-broken = λ j f owned w. refl;
      writes = λ r w d e. d;
      resets = λ enabled w. refl;
    }

error-changed : ChangedBy error_by (λ w. w.state.regs.error)
unfolding settled ended_by signalled faulted doorbell_cleared reset reset_registers
error-changed =
    record {
      works = λ k w. refl;
      finds-nothing = λ w. refl;
      refuses-ring = λ w. refl;
      settles-good = λ j owned w. refl;
      settles-broken = λ j f owned w. refl;
      writes = λ r w d e. e;
      resets = λ enabled w. refl;
    }

module _ (s : State) (es : List Event) (s' : State) where
  say : ((A : Type 0) (by : Event → A → A) (part : State → A) → ChangedBy by (λ w. part w.state) → part s' ≡ through by es (part s)) → Says s es s'
  say follows =
      record {
        completed = follows ℕ completed_by (λ t. t.regs.completed) completed-changed;
        error = follows LastError error_by (λ t. t.regs.error) error-changed;
        belongings = follows Belongings belongings_by (λ t. t.belongings) belongings-changed;
      }

-- of the units of a run
pub units-say : (w : World) (es : List Event) (w' : World) → Units w es w' → Says w.state es w'.state
units-say w es w' u = say w.state es w'.state (λ A by part c. units-through c w es w' u)

-- of one call
pub call-says : (w : World) (c : Call) (es : List Event) (w' : World) → Happens w c es w' → Says w.state es w'.state
call-says w k es w' h = say w.state es w'.state (λ A by part c. call-through c w k es w' h)

-- of any calls over still memory
pub calls-say : (w : World) (cs : List Call) (es : List Event) (w' : World) → History w cs es w' → Says w.state es w'.state
calls-say w cs es w' h = say w.state es w'.state (λ A by part c. calls-through c w cs es w' h)

-- and of any calls, each lent any memory at all
pub life-says : (s : State) (cs : List Call) (es : List Event) (s' : State) → Life s cs es s' → Says s es s'
life-says s cs es s' h = say s es s' (λ A by part c. life-through by part c s cs es s' h)
