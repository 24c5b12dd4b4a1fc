-- Demand 3: slices and answers in any order. What was spent and what was accepted settles state and memory. Assumes nothing.
use Rattle.std.specs.Prelude.{◌≡◌, Bool, true, false, ◌&&◌, List, ℕ}
use Rattle.std.proofs.Math.Bool.{and-false}
use Rattle.std.proofs.Common.{arith}
use Rattle.machine.specs.Schedule.{Event, Played, play}
use Rattle.rules.specs.State.{Work, World}
use Rattle.rules.specs.State.Work.{resting, entries, packets, waiting}
use Rattle.rules.specs.Steps.{busy, step, go, waits_on, waits, answered}

still-on : (enabled rung : Bool) (k : Work) → waits_on k ≡ true → enabled && busy rung k ≡ false
still-on e r resting h = let z : ◌≡◌ {A = ℕ} 0 1 = cc in absurd (omega arith)
still-on e r (entries o kept) h = let z : ◌≡◌ {A = ℕ} 0 1 = cc in absurd (omega arith)
still-on e r (packets j s at es held) h = let z : ◌≡◌ {A = ℕ} 0 1 = cc in absurd (omega arith)
still-on e r (waiting j es held) h = and-false e

abbrev pub world_waits : World → Bool
world_waits w = waits w.state

-- a device that waits takes no step
pub waiting-stands-still : (w : World) → world_waits w ≡ true → go w ≡ false
unfolding go
waiting-stands-still w h = still-on w.state.regs.enabled w.state.regs.doorbell w.state.work h

-- runs, and host answers with a run after each, in order; an answer that nothing waits for is not accepted, and nothing is run
abbrev pub played : List (Event Bool) → World → Played World Bool
played = play go step world_waits answered
