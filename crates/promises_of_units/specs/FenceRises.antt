-- 02, wish 1, "The completed fence may be lower after loading": and after nothing else but a reset. Assumes nothing.
use Rattle.std.specs.Prelude.{◌≡◌, refl, Bool, true, false, List, ℕ, ◌≤◌, ◌<◌, ltb}
use Rattle.std.proofs.Common.{arith, ltb-true}
use Rattle.machine.specs.Machine.{pick}
use Rattle.rules.specs.Shapes.{larger}
use Rattle.rules.specs.State.{State}
use Rattle.promises_of_packets.specs.Held.{Every}
use Rattle.promises_of_units.specs.Events.{Event}
use Rattle.promises_of_units.specs.Events.Event.{settling, ring_refusal, resetting}
use Rattle.promises_of_units.specs.Asked.{Asked, resets_or_loads}

-- an event that is no reset
abbrev pub NoReset : Event → Type 0
NoReset (settling j v owned s) = 0 ≤ 0
NoReset ring_refusal = 0 ≤ 0
NoReset resetting = ⊥

pub larger-rises : (a b : ℕ) → a ≤ larger a b
larger-rises a b = by_test (ltb a b) refl
  where
    by_test : (t : Bool) → ltb a b ≡ t → a ≤ pick t b a
    by_test true e = let h : a < b = ltb-true a b e in omega arith
    by_test false e = omega arith
