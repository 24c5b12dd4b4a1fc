-- The theorems of specs/FenceRises.antt, and what they rest on. Assumes nothing.
use Rattle.std.specs.Prelude.{◌≡◌, false, List, [], ◌∷◌, ℕ, ◌≤◌}
use Rattle.std.proofs.Common.{sym, subst, arith}
use Rattle.rules.specs.Shapes.{larger}
use Rattle.rules.specs.State.{State, World}
use Rattle.promises_of_packets.specs.Held.{Every, every-none, every-both}
use Rattle.promises_of_units.specs.Called.{Call, after, is_reset}
use Rattle.promises_of_units.specs.Units.{Unit}
use Rattle.promises_of_units.specs.Units.Unit.{works-on, finds-bad-ring, finds-no-work, settles}
use Rattle.promises_of_units.specs.Events.{Event, events_of_unit, Units, Happens}
use Rattle.promises_of_units.proofs.Events.{call-has-events}
use Rattle.promises_of_units.specs.Events.Event.{settling, ring_refusal, resetting}
use Rattle.promises_of_units.specs.Events.Units.{stop, one}
use Rattle.promises_of_units.specs.Events.Happens.{refused-write, refused-run, refused-answer, asks-register, asks-record, changes-registers, resets-all, spends, settles-answered}
use Rattle.promises_of_units.specs.Changes.{completed_by, through}
use Rattle.promises_of_units.proofs.Changes.{call-says}
use Rattle.promises_of_units.specs.Asked.{Asked, left, left_all, resets_or_loads, NoResetOrLoad, bad-file-leaves}
use Rattle.promises_of_units.specs.Asked.Asked.{calls, saves, loads, moves}
use Rattle.promises_of_units.specs.FenceRises.{NoReset, larger-rises}

unit-no-reset : {w w' : World} (u : Unit w w') → Every NoReset (events_of_unit u)
unfolding Every
unit-no-reset (works-on next h) = omega arith
unit-no-reset (finds-bad-ring e h) = (omega arith, omega arith)
unit-no-reset (finds-no-work e h) = omega arith
unit-no-reset (settles j f h) = (omega arith, omega arith)

units-no-reset : (w : World) (es : List Event) (w' : World) → Units w es w' → Every NoReset es
units-no-reset w es w' stop = every-none NoReset
units-no-reset w es w' (one {w' = v} {es = fs} g u q) = every-both NoReset (events_of_unit u) fs (unit-no-reset u) (units-no-reset v fs w' q)

call-no-reset : (w : World) (c : Call) (es : List Event) (w' : World) → is_reset c ≡ false → Happens w c es w' → Every NoReset es
unfolding Every
call-no-reset w c es w' n (refused-write offset v h) = omega arith
call-no-reset w c es w' n (refused-run i h) = omega arith
call-no-reset w c es w' n (refused-answer good i h) = omega arith
call-no-reset w c es w' n (asks-register offset) = omega arith
call-no-reset w c es w' n (asks-record i) = omega arith
call-no-reset w c es w' n (changes-registers offset v r m q d e) = omega arith
call-no-reset w c es w' n (resets-all offset v h q) = absurd (let z : ◌≡◌ {A = ℕ} 0 1 = cc in omega arith)
call-no-reset w c es w' n (spends i d u) = units-no-reset w es w' u
call-no-reset w c es w' n (settles-answered good i j table h {fs = fs} l e u) = (omega arith, units-no-reset _ fs w' u)

events-rise : (es : List Event) (a : ℕ) → Every NoReset es → a ≤ through completed_by es a
unfolding through Every
events-rise [] a n = omega arith
events-rise (settling j v owned s ∷ es) a n =
    let here : a ≤ larger a j.signal = larger-rises a j.signal in
    let later : larger a j.signal ≤ through completed_by es (larger a j.signal) = events-rise es (larger a j.signal) n.1 in
    omega arith
events-rise (ring_refusal ∷ es) a n = events-rise es a n.1
events-rise (resetting ∷ es) a n = absurd n.0

one-rises : (a : Asked) (s : State) → resets_or_loads a ≡ false → s.regs.completed ≤ (left a s).regs.completed
unfolding left
one-rises (calls c m) s n =
    let e : (es : List Event) × Happens (record { state = s; mem = m }) c es (after c (record { state = s; mem = m })) = call-has-events c (record { state = s; mem = m }) in
    subst (λ x. s.regs.completed ≤ x) (sym (call-says (record { state = s; mem = m }) c e.0 (after c (record { state = s; mem = m })) e.1).completed)
    (events-rise e.0 s.regs.completed (call-no-reset (record { state = s; mem = m }) c e.0 (after c (record { state = s; mem = m })) n e.1))
one-rises (saves f buffer) s n = omega arith
one-rises (loads b) s n = subst (λ (t : State). s.regs.completed ≤ t.regs.completed) (sym (bad-file-leaves b s n)) (omega arith)
one-rises (moves b buffer) s n = omega arith

-- whatever is asked of a device, but a reset and a load of a good file, its completed fence is not lower after it
pub only-a-reset-or-a-load-lowers-the-fence : (qs : List Asked) (s : State) → NoResetOrLoad qs → s.regs.completed ≤ (left_all qs s).regs.completed
unfolding left_all Every
only-a-reset-or-a-load-lowers-the-fence [] s n = omega arith
only-a-reset-or-a-load-lowers-the-fence (a ∷ qs) s n =
    let here : s.regs.completed ≤ (left a s).regs.completed = one-rises a s n.0 in
    let later : (left a s).regs.completed ≤ (left_all qs (left a s)).regs.completed = only-a-reset-or-a-load-lowers-the-fence qs (left a s) n.1 in
    omega arith
