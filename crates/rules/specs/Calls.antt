-- 01, "State and calls": the answer of every call, and what stands beside it.
use Rattle.std.specs.Prelude.{Bool, true, false, not, ◌&&◌, ◌||◌, List, [], ℕ, eqb, length}
use Rattle.machine.specs.Machine.{pick, Out}
use Rattle.rules.specs.Numbers.{done, other_memory, no_register, nothing_waits, no_record}
use Rattle.rules.specs.Lists.{Found, nth}
use Rattle.rules.specs.Lists.Found.{none, found}
use Rattle.rules.specs.State.{Work, State, World}
use Rattle.rules.specs.State.Work.{resting, entries, packets, waiting}
use Rattle.rules.specs.Registers.{Read, register, Write, write_of}
use Rattle.rules.specs.Steps.{run_for, waits, answered}
use Rattle.rules.specs.declared.Record.{Record}
use Rattle.rules.specs.declared.Ended.{Ended}
use Rattle.rules.specs.declared.Ended.TheVariants.{Idle, Waiting, Paused}

-- "lent memory has another length than at making"
abbrev pub lent_another : World → Bool
lent_another w = not (eqb (length w.mem) w.state.memory)

-- ---- how a run ends

abbrev pub at_rest : Work → Bool
at_rest resting = true
at_rest (entries o kept) = false
at_rest (packets j s at es h) = false
at_rest (waiting j es h) = false

-- "waiting if a submission awaits the host, enabled or not; else idle if disabled, or if the doorbell flag is clear and nothing is in work; else paused"
unfoldable pub ending : State → Ended
ending s =
    pick (waits s) Waiting
    (pick (not s.regs.enabled || (not s.regs.doorbell && at_rest s.work)) Idle Paused)

-- a number for each of the three, for exports: idle is 0, as beside a refused run
abbrev pub ended_number : Ended → ℕ
ended_number Idle = 0
ended_number Waiting = 1
ended_number Paused = 2

-- ---- the calls

pub record Wrote : Type 0 where
  pub answer : ℕ
  pub state : State

abbrev pub wrote : State → Found Write → Wrote
wrote s none = record { answer = no_register; state = s }
wrote s (found w) = record { answer = done; state = w.state }

unfoldable pub call_write : State → ℕ → ℕ → Wrote
call_write s offset v = wrote s (write_of s offset v)

pub record Value : Type 0 where
  pub answer : ℕ
  pub value : ℕ

abbrev pub valued : Found Read → Value
valued none = record { answer = no_register; value = 0 }
valued (found r) = record { answer = done; value = r.value }

unfoldable pub call_read : State → ℕ → Value
call_read s offset = valued (register s.regs offset)

pub record Ran : Type 0 where
  pub answer : ℕ
  pub units : ℕ
  pub ended : Ended
  pub world : World

-- "Answers 1 to 4 change no state or byte; a value returned beside them is zero (idle for run)."
abbrev pub not_run : ℕ → World → Ran
not_run answer w = record { answer = answer; units = 0; ended = Idle; world = w }

abbrev pub ran : Out World → Ran
ran o = record { answer = done; units = o.units; ended = ending o.state.state; world = o.state }

unfoldable pub call_run : World → ℕ → Ran
call_run w allowance =
    pick (lent_another w) (not_run other_memory w) (ran (run_for allowance w))

pub record RecordRead : Type 0 where
  pub answer : ℕ
  pub range : Record

abbrev pub no_range : Record
no_range = record { kind = 0; handle = 0; id = 0; gpa = 0; length = 0 }

-- the records that the host may read: only while a submission waits
abbrev pub handed_out : Work → List Record
handed_out resting = []
handed_out (entries o kept) = []
handed_out (packets j s at es h) = []
handed_out (waiting j es h) = h.holdings.records

abbrev pub record_read : Found Record → RecordRead
record_read none = record { answer = no_record; range = no_range }
record_read (found c) = record { answer = done; range = c }

-- "record index not below the count, or nothing waiting"
unfoldable pub call_record : State → ℕ → RecordRead
call_record s i = record_read (nth (handed_out s.work) i)

pub record Answered : Type 0 where
  pub answer : ℕ
  pub world : World

-- what 01 calls "give the host's answer". "1 comes before 3."
unfoldable pub answer_alone : World → Bool → Answered
answer_alone w good =
    pick (lent_another w) (record { answer = other_memory; world = w })
    (pick (waits w.state) (record { answer = done; world = answered good w }) (record { answer = nothing_waits; world = w }))

-- By wish 6 it is no call of its own any more: "Make that one call, with the answer, an allowance and the memory, and drop the separate answer
-- call; an allowance of 0 is the old call. Answers 1 and 3 refuse the whole call, nothing run; else it must equal the two old calls one after
-- the other."
abbrev pub and_run : Answered → ℕ → Ran
and_run a allowance = pick (eqb a.answer done) (call_run a.world allowance) (not_run a.answer a.world)

unfoldable pub call_answer : World → Bool → ℕ → Ran
call_answer w good allowance = and_run (answer_alone w good) allowance
