-- Chains of calls that a host made, in any layer, over memory that nobody else writes: each is lent what the one before left. A chain leads
-- where the rules' calls lead, and what its calls said adds up to what the rules' calls report; so every theorem about lists of calls is one
-- about chains. Assumes nothing.
use Rattle.std.specs.Prelude.{◌≡◌, refl, Bool, false, ℕ, ◌+◌, eqb}
use Rattle.std.proofs.Math.Path.{sym}
use Rattle.std.proofs.Common.{ap, ◌∙◌, zero-add, arith}
use mathlib.Core.List.{List, [], ◌∷◌, ◌++◌}
use Rattle.machine.specs.Machine.{pick}
use Rattle.machine.specs.Schedule.{Event as Turn, Played, play}
use Rattle.machine.specs.Schedule.Event.{run, answers}
use Rattle.rules.specs.Numbers.{done}
use Rattle.rules.specs.State.{World}
use Rattle.rules.specs.Steps.{run_for}
use Rattle.rules.specs.Calls.{Ran}
use Rattle.promises_of_packets.specs.Held.{Every}
use Rattle.promises_of_submissions.specs.Slices.{played}
use Rattle.promises.specs.Slicing.{is_write, NoWrite}
use Rattle.promises_of_units.specs.Runs.{of-run, of-answer}
use Rattle.promises_of_units.specs.Called.{Call, after, units_of, taken_by, after_all, units_of_all, taken_by_all}
use Rattle.promises_of_units.specs.Called.Call.{writes, reads, runs, records, answers}
use Rattle.promises_of_units.specs.Acts.{Act, acts_of_all}
use Rattle.promises_of_calls.specs.Layers.{taken_in, Layer, standing}
use Rattle.promises_of_calls.specs.Calls.{acts_in, MadeAndCalled}
use Rattle.promises_of_calls.specs.Calls.MadeAndCalled.{called-one}

-- calls one after the other, each with what it said and what its contract says of it
pub data Chain (L : Layer) : L.Device → List ℕ → List Call → L.Device → List ℕ → Type 0 where
  no_call : {d : L.Device} {m : List ℕ} → Chain L d m [] d m
  call_then : {d d₁ d' : L.Device} {m m₁ m' : List ℕ} {c : Call} {cs : List Call} (x : L.Said)
      → L.Gives d m c x d₁ m₁ → Chain L d₁ m₁ cs d' m' → Chain L d m (c ∷ cs) d' m'

-- one chain and then another
pub chain_on : {L : Layer} {d d₁ d' : L.Device} {m m₁ m' : List ℕ} {cs ds : List Call} → Chain L d m cs d₁ m₁ → Chain L d₁ m₁ ds d' m' → Chain L d m (cs ++ ds) d' m'
chain_on no_call b = b
chain_on (call_then x k a) b = call_then x k (chain_on a b)

-- and the device that it leads to was made and called, where the one that it began with was
pub chain-called : {L : Layer} {d d' : L.Device} {m m' : List ℕ} {cs : List Call} → Chain L d m cs d' m' → MadeAndCalled L d → MadeAndCalled L d'
chain-called no_call c = c
chain-called (call_then {m = m} {m₁ = m₁} {c = one} x k later) c = chain-called later (called-one m m₁ one x k c)

-- ---- what its calls said

-- the units, one call's after the other
unfoldable pub units_said : {L : Layer} {d d' : L.Device} {m m' : List ℕ} {cs : List Call} → Chain L d m cs d' m' → ℕ
units_said no_call = 0
units_said {L} (call_then {c = c} x k later) = L.units c x + units_said later

-- the host's answers that were taken, by what the answer calls said
unfoldable pub answers_taken : {L : Layer} {d d' : L.Device} {m m' : List ℕ} {cs : List Call} → Chain L d m cs d' m' → List Bool
answers_taken no_call = []
answers_taken {L} (call_then {c = c} x k later) = taken_in c (L.answered x) ++ answers_taken later

-- the acts in their order: units spent, registers written, answers taken
unfoldable pub acts_said : {L : Layer} {d d' : L.Device} {m m' : List ℕ} {cs : List Call} → Chain L d m cs d' m' → List Act
acts_said no_call = []
acts_said {L} (call_then {c = c} x k later) = acts_in c (L.units c x) (L.answered x) ++ acts_said later

-- ---- a chain is the rules' calls

-- where it ends, and what its calls said
pub record AsCalls {L : Layer} {d d' : L.Device} {m m' : List ℕ} {cs : List Call} (k : Chain L d m cs d' m') : Type 0 where
  pub world : standing L d' m' ≡ after_all cs (standing L d m)
  pub units : units_said k ≡ units_of_all cs (standing L d m)
  pub taken : answers_taken k ≡ taken_by_all cs (standing L d m)
  pub acts : acts_said k ≡ acts_of_all cs (standing L d m)

-- ---- chains without a write, as schedules of runs and answers

-- some schedule comes to this
abbrev pub Plays : World → Played World Bool → Type 0
Plays w p = (es : List (Turn Bool)) × (played es w ≡ p)

-- the same with units spent and answers taken before
abbrev ahead : ℕ → List Bool → Played World Bool → Played World Bool
ahead u bs p = record { state = p.state; units = u + p.units; accepted = bs ++ p.accepted }

no-units-ahead : (bs : List Bool) (p : Played World Bool) → record { state = p.state; units = p.units; accepted = bs ++ p.accepted } ≡ ahead 0 bs p
no-units-ahead bs p = ap {B = Played World Bool} (λ u. record { state = p.state; units = u; accepted = bs ++ p.accepted }) (sym (zero-add p.units))

call-plays : (c : Call) (w : World) (p : Played World Bool) → is_write c ≡ false → Plays (after c w) p → Plays w (ahead (units_of c w) (taken_by c w) p)
unfolding after units_of taken_by play
call-plays (writes offset v) w p h q = absurd (let z : ◌≡◌ {A = ℕ} 0 1 = cc in omega arith)
call-plays (reads offset) w p h q = (q.0, q.1 ∙ no-units-ahead [] p)
call-plays (runs n) w p h q =
    of-run (λ (r : Ran). Plays r.world p → Plays w (ahead r.units [] p)) w n (λ e k. (k.0, k.1 ∙ no-units-ahead [] p))
    (λ e k. (run n ∷ k.0, ap (ahead (run_for n w).units []) k.1)) q
call-plays (records i) w p h q = (q.0, q.1 ∙ no-units-ahead [] p)
call-plays (answers good n) w p h q =
    of-answer (λ (r : Ran). Plays r.world p → Plays w (ahead r.units (pick (eqb r.answer done) (good ∷ []) []) p)) w good n
    (λ e k. (k.0, k.1 ∙ no-units-ahead [] p)) (λ e f k. (k.0, k.1 ∙ no-units-ahead [] p))
    (λ e f k. (answers good n ∷ k.0, rw (f, k.1))) q

pub calls-play : (cs : List Call) (w : World) → NoWrite cs → Plays w (record { state = after_all cs w; units = units_of_all cs w; accepted = taken_by_all cs w })
unfolding after_all units_of_all taken_by_all play Every
calls-play [] w h = ([], refl)
calls-play (c ∷ cs) w h =
    call-plays c w (record { state = after_all cs (after c w); units = units_of_all cs (after c w); accepted = taken_by_all cs (after c w) }) h.0 (calls-play cs (after c w) h.1)
