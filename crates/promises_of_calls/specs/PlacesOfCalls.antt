-- 02, wish 9, of the calls that a host made, in any layer: after a run of one unit that finds a rule broken, the error registers alone tell where: 14 and 15 an entry's
-- index, any other number with a detail a packet's offset, else no place. Assumes nothing.
use Rattle.std.specs.Prelude.{◌≡◌, true, false, ℕ, ◌≤◌}
use Rattle.std.proofs.Common.{arith}
use Rattle.machine.specs.Machine.{run_none, run-go}
use Rattle.rules.specs.State.{World}
use Rattle.rules.specs.Steps.{go, step}
use Rattle.rules.specs.Calls.{lent_another, Ran}
use Rattle.rules.specs.declared.Fault.{Fault}
use Rattle.rules.specs.declared.Job.{Job}
use Rattle.promises_of_submissions.specs.LentBytes.{OfBytes}
use Rattle.promises_of_units.specs.Called.{after}
use Rattle.promises_of_units.specs.Called.Call.{runs}
use Rattle.promises_of_units.specs.Changes.{told}
use Rattle.promises_of_units.specs.Runs.{of-run}
use Rattle.rule_laws.specs.RuleNumbers.{EntryRule}
use Rattle.promises.specs.PlacesByNumber.{place_told, judged_by, JudgesAnEntry, NumberedPlace}
use Rattle.promises_of_calls.specs.Layers.{Layer}
use Rattle.promises_of_calls.specs.Calls.{MadeAndCalled, CallMade}
use Rattle.promises_of_calls.specs.Calls.MadeAndCalled.{made_one, loaded-one, called-one}

-- ---- every memory that was lent holds bytes, as every lent slice does

unfoldable pub LentBytes : {L : Layer} {d : L.Device} → MadeAndCalled L d → Type 0
LentBytes (made_one memory k) = 0 ≤ 0
LentBytes (loaded-one b k) = 0 ≤ 0
LentBytes (called-one m m' c x k earlier) = OfBytes m × LentBytes earlier

-- ---- a run of one unit that finds a rule broken

pub record ToldBy {L : Layer} (r : CallMade L (runs 1)) (j : Job) (f : Fault) : Type 0 where
  -- number, fence and place stand in the registers, set together
  pub error : (L.state r.leaves).regs.error ≡ told j f (L.state r.of).regs.error
  -- and the number and the detail tell what the unit judged
  pub tells : place_told (L.state r.leaves).regs.error.code (L.state r.leaves).regs.error.detail ≡ judged_by (L.state r.of).work
  pub entrys : (EntryRule (L.state r.leaves).regs.error.code → JudgesAnEntry (L.state r.of).work)
      × (JudgesAnEntry (L.state r.of).work → EntryRule (L.state r.leaves).regs.error.code)
  pub placed : NumberedPlace (L.state r.of).work f

pub one_unit : (w : World) → lent_another w ≡ false → go w ≡ true → after (runs 1) w ≡ step w
unfolding after
one_unit w l g =
    of-run (λ (x : Ran). x.world ≡ step w) w 1 (λ a. absurd (let z : ◌≡◌ {A = ℕ} 0 1 = cc in omega arith))
    (λ a. rw (run-go go step 0 w g, run_none go step (step w)))
