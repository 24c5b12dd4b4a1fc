-- The theorems of specs/Locality.antt, and what they rest on. Assumes nothing.
use Rattle.std.specs.Prelude.{◌≡◌, refl, Bool, List, ℕ, length}
use Rattle.std.proofs.Common.{ap}
use Rattle.std.proofs.Math.Bool.{true, false}
use Rattle.machine.specs.Machine.{pick, halt, spent, run_while}
use Rattle.rules.specs.Numbers.{other_memory}
use Rattle.rules.specs.Judging.{at_place}
use Rattle.rules.specs.Table.{take_entry}
use Rattle.rules.specs.Stream.{left}
use Rattle.rules.specs.Ring.{opening_of}
use Rattle.rules.specs.Packets.{take_packet}
use Rattle.rules.specs.State.{Work, State, World}
use Rattle.rules.specs.State.Work.{resting, entries, packets, waiting}
use Rattle.rules.specs.Steps.{open_step, entry_step, next_place, packet_step, step_on, step, go}
use Rattle.rules.specs.Calls.{lent_another, ending, Ran, ran, call_run}
use Rattle.rules.specs.declared.Ended.TheVariants.{Idle}
use Rattle.promises_of_submissions.specs.LocalWrites.{AgreeAt, same-writes-agree}
use Rattle.promises_of_submissions.specs.LocalWrites.SameWrites.{unwritten}
use Rattle.promises_of_submissions.specs.LocalPackets.{same-next-frame, same-taken-packet}
use Rattle.promises_of_submissions.proofs.LocalOpening.{same-opening}
use Rattle.promises_of_submissions.specs.Locality.{SameEnd, SameFor, SameRun, SameWhereRead, entry-blind, lent, opening-blind, packet-blind, same-taken-entry}

module _ (s : State) (m m' : List ℕ) where
  module _ (len : length m ≡ length m') where
    on-reads-only : (k : Work) → SameFor s.regs k m m' → SameEnd m m' (step_on (lent s m) k) (step_on (lent s m') k)
    unfolding open_step entry_step packet_step
    on-reads-only resting same =
        rw (← same-opening m m' len s.regs.ring s.regs.ringsize same) ((opening-blind s m m') (opening_of m s.regs.ring s.regs.ringsize))
    on-reads-only (entries o kept) same =
        rw (← same-taken-entry m m' len o.table kept same) ((entry-blind s m m') o (take_entry m o.table kept).kept (at_place (length kept) (take_entry m o.table kept).verdict))
    on-reads-only (packets j t at es h) same =
        rw (← same-next-frame t at m m' len same, ← same-taken-packet t at m m' len same es h)
        ((packet-blind s m m') j t (next_place at (left m t at)) es (take_packet es h (left m t at)).held (at_place at (take_packet es h (left m t at)).verdict))
    on-reads-only (waiting j es h) same = record { state = refl; writes = unwritten }

    -- one unit, of one device over two memories of one length
    pub unit-reads-only : SameWhereRead s m m' → SameEnd m m' (step (lent s m)) (step (lent s m'))
    unfolding step
    unit-reads-only same = on-reads-only s.work same

    -- and a byte that differs after it differed before
    pub unit-spreads-no-difference : SameWhereRead s m m' → (i : ℕ) → AgreeAt i m m' → AgreeAt i (step (lent s m)).mem (step (lent s m')).mem
    unit-spreads-no-difference same i at =
        let end : SameEnd m m' (step (lent s m)) (step (lent s m')) = unit-reads-only same in
        same-writes-agree i (step (lent s m)).state.regs m m' (step (lent s m)).mem (step (lent s m')).mem len at end.writes

-- ---- by calls

-- a run of one unit; of a device that does not go it reads nothing
pub run-of-one-reads-only : (s : State) (m m' : List ℕ) → length m ≡ length m' → (go (lent s m) ≡ true → SameWhereRead s m m')
    → SameRun m m' (call_run (lent s m) 1) (call_run (lent s m') 1)
unfolding call_run run_while go
run-of-one-reads-only s m m' len same = rw (← len) (by_tests (lent_another (lent s m)) (go (lent s m)) refl)
  where
    refused : World → Ran
    refused w = record { answer = other_memory; units = 0; ended = Idle; world = w }

    one : Bool → World → Ran
    one b w = ran (pick b (spent 1 (halt (step w))) (halt w))

    by_tests : (a b : Bool) → go (lent s m) ≡ b → SameRun m m' (pick a (refused (lent s m)) (one b (lent s m))) (pick a (refused (lent s m')) (one b (lent s m')))
    by_tests true b g = record { answer = refl; units = refl; ended = refl; end = record { state = refl; writes = unwritten } }
    by_tests false true g =
        let unit : SameEnd m m' (step (lent s m)) (step (lent s m')) = unit-reads-only s m m' len (same g) in
        record { answer = refl; units = refl; ended = ap ending unit.state; end = unit }
    by_tests false false g = record { answer = refl; units = refl; ended = refl; end = record { state = refl; writes = unwritten } }
