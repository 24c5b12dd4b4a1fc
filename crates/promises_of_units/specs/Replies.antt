-- What a host is told by each call: its answer, and the values that stand beside it.
use Rattle.std.specs.Prelude.{ℕ}
use Rattle.rules.specs.State.{World}
use Rattle.rules.specs.Calls.{no_range, call_write, call_read, call_run, call_record, call_answer}
use Rattle.rules.specs.declared.Record.{Record}
use Rattle.rules.specs.declared.Ended.{Ended}
use Rattle.rules.specs.declared.Ended.TheVariants.{Idle}
use Rattle.promises_of_units.specs.Called.{Call}
use Rattle.promises_of_units.specs.Called.Call.{writes, reads, runs, records, answers}

-- ---- what a call replies

-- its answer, and the values that stand beside it; a value that a call does not have is zero (idle for how it ended)
pub record Reply : Type 0 where
  pub answer : ℕ
  pub value : ℕ
  pub units : ℕ
  pub ended : Ended
  pub range : Record

-- a write's
abbrev pub answering : ℕ → Reply
answering a = record { answer = a; value = 0; units = 0; ended = Idle; range = no_range }

-- a read's
abbrev pub showing : ℕ → ℕ → Reply
showing a value = record { answer = a; value = value; units = 0; ended = Idle; range = no_range }

-- a run's, and an answer's that runs on
abbrev pub spending : ℕ → ℕ → Ended → Reply
spending a units ended = record { answer = a; value = 0; units = units; ended = ended; range = no_range }

-- a record call's
abbrev pub handing : ℕ → Record → Reply
handing a range = record { answer = a; value = 0; units = 0; ended = Idle; range = range }

-- the rules' reply to each call
unfoldable pub reply_to : Call → World → Reply
reply_to (writes offset v) w = answering (call_write w.state offset v).answer
reply_to (reads offset) w = showing (call_read w.state offset).answer (call_read w.state offset).value
reply_to (runs n) w = spending (call_run w n).answer (call_run w n).units (call_run w n).ended
reply_to (records i) w = handing (call_record w.state i).answer (call_record w.state i).range
reply_to (answers good n) w = spending (call_answer w good n).answer (call_answer w good n).units (call_answer w good n).ended
