-- The theorems of specs/Units.antt, and what they rest on. Assumes nothing.
use Rattle.std.specs.Prelude.{◌≡◌, Bool, true, false, List, [], ℕ, zero, suc, length, Err, Ok}
use Rattle.std.proofs.Math.Path.{refl, sym, ap}
use Rattle.std.proofs.Common.{subst, ◌∙◌}
use Rattle.machine.specs.Machine.{run_none, run-stop, run-go}
use Rattle.rules.specs.Judging.{fault_at, at_place, without_place, Verdict}
use Rattle.rules.specs.Judging.Finding.{broken}
use Rattle.rules.specs.Table.{take_entry}
use Rattle.rules.specs.Stream.{left}
use Rattle.rules.specs.Packets.{Progress, take_packet}
use Rattle.rules.specs.State.{Work, State, World}
use Rattle.rules.specs.State.Work.{resting, entries, packets, waiting}
use Rattle.rules.specs.Settle.{settled, settled_keeping}
use Rattle.rules.specs.Steps.{packets_at, entries_at, after_opening, open_step, after_entry, entry_step, after_packet, next_place, packet_step, step_on, step, go, run_for, waits}
use Rattle.rules.specs.declared.Fault.{Fault}
use Rattle.rules.specs.declared.Entry.{Entry}
use Rattle.rules.specs.declared.Job.{Job}
use Rattle.rules.specs.declared.Stream.{Stream}
use Rattle.rules.specs.declared.Opened.{Opened}
use Rattle.rules.specs.declared.Opening.{Opening}
use Rattle.rules.specs.declared.Opening.TheVariants.{BadRing, NoWork, Refused, Started}
use Rattle.promises_of_units.specs.Memory.{JobOf}
use Rattle.promises_of_units.specs.Units.{Breaks, Next, Unit, next-is-step, opening_here}
use Rattle.promises_of_units.specs.Units.Unit.{finds-bad-ring, finds-no-work, settles, works-on}

module _ (w : World) where
  by-opening : w.state.work ≡ resting → (v : Opening) → opening_here w ≡ v → Unit w (after_opening w v)
  by-opening e BadRing h = finds-bad-ring e h
  by-opening e NoWork h = finds-no-work e h
  by-opening e (Refused j r) h = settles j (without_place r) (subst (λ k. Breaks w k j (without_place r)) (sym e) (record { why = r; here = h; nowhere = refl }))
  by-opening e (Started o) h = works-on _ (subst (λ k. Next w k (entries_at o [] w.state.belongings)) (sym e) (record { what = o; here = h; first = refl }))

  by-entry : (o : Opened) (kept : List Entry) → w.state.work ≡ entries o kept → (v : Verdict) → (take_entry w.mem o.table kept).verdict ≡ v
      → Unit w (after_entry w o (take_entry w.mem o.table kept).kept (at_place (length kept) v))
  by-entry o kept e (Ok _) h =
      let next : Work = entries_at o (take_entry w.mem o.table kept).kept w.state.belongings in
      works-on next (subst (λ k. Next w k next) (sym e) (h, refl))
  by-entry o kept e (Err r) h =
      settles o.job (fault_at (length kept) r) (subst (λ k. Breaks w k o.job (fault_at (length kept) r)) (sym e) (refl, ap (at_place (length kept)) h))

  by-packet : (j : Job) (s : Stream) (at : ℕ) (es : List Entry) (h : Progress) → w.state.work ≡ packets j s at es h → (v : Verdict) → (take_packet es h (left w.mem s at)).verdict ≡ v
      → Unit w (after_packet w j s (next_place at (left w.mem s at)) es (take_packet es h (left w.mem s at)).held (at_place at v))
  by-packet j s at es h e (Ok _) q =
      let next : Work = packets_at j s (next_place at (left w.mem s at)) es (take_packet es h (left w.mem s at)).held in
      works-on next (subst (λ k. Next w k next) (sym e) (q, refl))
  by-packet j s at es h e (Err r) q = settles j (fault_at at r) (subst (λ k. Breaks w k j (fault_at at r)) (sym e) (refl, ap (at_place at) q))

  by-work : (k : Work) → w.state.work ≡ k → Unit w (step_on w k)
  unfolding open_step entry_step packet_step
  by-work resting e = by-opening e (opening_here w) refl
  by-work (entries o kept) e = by-entry o kept e (take_entry w.mem o.table kept).verdict refl
  by-work (packets j s at es h) e = by-packet j s at es h e (take_packet es h (left w.mem s at)).verdict refl
  by-work (waiting j es h) e = works-on w.state.work (subst (λ k. Next w k k) (sym e) refl)

-- each unit is one of the four
pub unit : (w : World) → Unit w (step w)
unfolding step
unit w = by-work w w.state.work refl

-- and what a case asks for decides it: a world that one of them gives is the unit's
module _ (w : World) where
  broken-is-step : (k : Work) (j : Job) (f : Fault) → Breaks w k j f → step_on w k ≡ settled_keeping j (broken f) w
  unfolding open_step entry_step packet_step
  broken-is-step resting j f h = ap (after_opening w) h.here ∙ ap (λ x. settled_keeping j (broken x) w) (sym h.nowhere)
  broken-is-step (entries o kept) j f h =
      ap (after_entry w o (take_entry w.mem o.table kept).kept) h.1 ∙ ap (λ x. settled_keeping x (broken f) w) (sym h.0)
  broken-is-step (packets k s at es held) j f h =
      ap (after_packet w k s (next_place at (left w.mem s at)) es (take_packet es held (left w.mem s at)).held) h.1 ∙ ap (λ x. settled_keeping x (broken f) w) (sym h.0)
  broken-is-step (waiting k es held) j f h = absurd h

pub unit-is-step : (w w' : World) → Unit w w' → step w ≡ w'
unfolding step open_step
unit-is-step w w' (works-on next h) = next-is-step w w.state.work next refl h
unit-is-step w w' (finds-bad-ring e h) = ap (step_on w) e ∙ ap (after_opening w) h
unit-is-step w w' (finds-no-work e h) = ap (step_on w) e ∙ ap (after_opening w) h
unit-is-step w w' (settles j f h) = broken-is-step w w.state.work j f h

-- a unit settles the submission in work, or the one that its opening refuses
pub broken-is-in-work : (w : World) (k : Work) (j : Job) (f : Fault) → Breaks w k j f → JobOf w k j
broken-is-in-work w resting j f h = record { why = h.why; here = h.here }
broken-is-in-work w (entries o kept) j f h = h.0
broken-is-in-work w (packets k s at es held) j f h = h.0
broken-is-in-work w (waiting k es held) j f h = absurd h

-- ---- the device's resources and tokens: units never change them

belongings-of-unit : (w w' : World) → Unit w w' → w'.state.belongings ≡ w.state.belongings
unfolding settled
belongings-of-unit w w' (works-on next h) = refl
belongings-of-unit w w' (finds-bad-ring e h) = refl
belongings-of-unit w w' (finds-no-work e h) = refl
belongings-of-unit w w' (settles j f h) = refl

pub unit-keeps-belongings : (w : World) → (step w).state.belongings ≡ w.state.belongings
unit-keeps-belongings w = belongings-of-unit w (step w) (unit w)

pub run-keeps-belongings : (n : ℕ) (w : World) → (run_for n w).state.state.belongings ≡ w.state.belongings
run-keeps-belongings zero w = rw (run_none go step w)
run-keeps-belongings (suc n) w = by_test (go w) refl (run-keeps-belongings n (step w))
  where
    by_test : (b : Bool) → go w ≡ b → (run_for n (step w)).state.state.belongings ≡ (step w).state.belongings → (run_for (suc n) w).state.state.belongings ≡ w.state.belongings
    by_test true g q = rw (run-go go step n w g) (q ∙ unit-keeps-belongings w)
    by_test false g q = rw (run-stop go step (suc n) w g)
