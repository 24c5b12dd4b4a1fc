-- A run over memories that change from unit to unit reads, at each, only what that unit reads. Assumes nothing.
use Rattle.std.specs.Prelude.{◌≡◌, refl, List, ℕ, length}
use Rattle.std.proofs.Common.{ap, ◌∙◌}
use Rattle.std.proofs.Math.Bool.{true}
use Rattle.rules.specs.State.{State}
use Rattle.rules.specs.Steps.{go}
use Rattle.rules.specs.Calls.{call_run}
use Rattle.promises_of_submissions.specs.Locality.{SameWhenRead, after_one, over_moving}
use Rattle.promises_of_submissions.proofs.Locality.{run-of-one-reads-only}
use Rattle.promises_of_submissions.specs.Locality.SameWhenRead.{ends, unit}

-- ---- memory may move: runs of one unit each, each lent a memory of its own

-- so what a device comes to is fixed by the bytes that each unit reads, as they stand at that unit
pub moving-memory-reads-only : (s : State) (ms ms' : List (List ℕ)) → SameWhenRead s ms ms' → over_moving ms s ≡ over_moving ms' s
unfolding over_moving
moving-memory-reads-only s ms ms' ends = refl
moving-memory-reads-only s ms ms' (unit {ms = ns} {ms' = ns'} m m' len same later) =
    moving-memory-reads-only (after_one s m) ns ns' later ∙ ap (over_moving ns') (run-of-one-reads-only s m m' len same).end.state
