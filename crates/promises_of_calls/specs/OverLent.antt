-- The calls over state that a host lends, as a layer: the words and tables are those of a `Device`, and each call works on those that it is
-- lent. Every such call is one of the device by value. Assumes nothing.
use Rattle.std.specs.Prelude.{◌≡◌, List, Bool, ℕ, Result, ⊤}
use Rattle.rules.specs.Numbers.{done}
use Rattle.run_state.specs.Views.{Lent, lent as lending}
use Rattle.register_writes.specs.Views.{Writes}
use Rattle.device_calls.specs.Views.{value_of, record_read_of, Makes, Reads, GivesRecord}
use Rattle.rules.specs.declared.Record.{Record}
use Rattle.call_errors.specs.Answers.{answer_of}
use Rattle.call_errors.specs.declared.CallError.{CallError}
use Rattle.device_memory_calls.specs.Views.{spent_beside, Runs, Answers}
use Rattle.device_memory_calls.specs.declared.Spent.{Spent}
use Rattle.saved_load.specs.Views.{load_answer, Loads as LoadsOver}
use Rattle.saved_load.specs.declared.BadFile.{BadFile}
use Rattle.device.specs.Calling.{is_made, wrote, read, record_read, ran, answered, loaded}
use Rattle.device.specs.declared.Device.{Device}
use Rattle.promises_of_units.specs.Called.{Call}
use Rattle.promises_of_units.specs.Called.Call.{writes, reads, runs, records, answers}
use Rattle.promises_of_units.specs.Replies.{Reply, answering, showing, spending, handing}
use Rattle.promises_of_calls.specs.Layers.{Layer}
use Rattle.promises_of_calls.specs.ByValue.{Gives as GivesByValue, Loads, layer_of}
use Rattle.promises_of_calls.specs.ByValue.Gives.{write-gives, read-gives, run-gives, record-gives, answer-gives}

-- the same tables under other words
abbrev pub with_words : List ℕ → Device → Device
with_words s d = record { words = s; entries = d.entries; first = d.first; second = d.second; firsttokens = d.firsttokens; secondtokens = d.secondtokens; records = d.records }

-- all that a run or an answer is lent
abbrev pub lent_of : Device → List ℕ → Lent
lent_of d m = lending d.words d.entries d.first d.second d.firsttokens d.secondtokens d.records m

-- the words and tables of a host with memory m beside them, a call that was lent them, its reply, and what stands after it
pub data Gives (d : Device) (m : List ℕ) : Call → Reply → Device → List ℕ → Type 0 where
  lent-write : (offset v : ℕ) (x : Result ⊤ CallError) (s' : List ℕ) → Writes d.words offset v (answer_of x) s' → Gives d m (writes offset v) (answering (answer_of x)) (with_words s' d) m
  lent-read : (offset : ℕ) (x : Result ℕ CallError) → Reads d.words offset x → Gives d m (reads offset) (showing (value_of x).answer (value_of x).value) d m
  lent-run : (n : ℕ) (x : Result Spent CallError) (d' : Device) (m' : List ℕ) → Runs n (lent_of d m) x (lent_of d' m')
      → Gives d m (runs n) (spending (answer_of x) (spent_beside x).units (spent_beside x).ended) d' m'
  lent-record : (i : ℕ) (x : Result Record CallError) → GivesRecord d.words d.records i x → Gives d m (records i) (handing (record_read_of x).answer (record_read_of x).range) d m
  lent-answer : (good : Bool) (n : ℕ) (x : Result Spent CallError) (d' : Device) (m' : List ℕ) → Answers good n (lent_of d m) x (lent_of d' m')
      → Gives d m (answers good n) (spending (answer_of x) (spent_beside x).units (spent_beside x).ended) d' m'

-- it is a call of the device by value that those words and tables are
pub is-by-value : {d : Device} {m : List ℕ} {c : Call} {r : Reply} {d' : Device} {m' : List ℕ} → Gives d m c r d' m' → GivesByValue d m c r d' m'
is-by-value {d} {m} (lent-write offset v x s' k) = write-gives offset v (record { answer = x; device = with_words s' d }) (wrote d offset v x s' k)
is-by-value {d} {m} (lent-read offset x k) = read-gives offset x (read d offset x k)
is-by-value {d} {m} (lent-run n x d' m' k) =
    run-gives n (record { answer = x; device = d' }) m'
    (ran d m n x d'.words d'.entries d'.first d'.second d'.firsttokens d'.secondtokens d'.records m' k)
is-by-value {d} {m} (lent-record i x k) = record-gives i x (record_read d i x k)
is-by-value {d} {m} (lent-answer good n x d' m' k) =
    answer-gives good n (record { answer = x; device = d' }) m'
    (answered d m good n x d'.words d'.entries d'.first d'.second d'.firsttokens d'.secondtokens d'.records m' k)

-- the same tables under other words, with other first tables of resources and of tokens
abbrev pub with_loaded : List ℕ → List ℕ → List ℕ → Device → Device
with_loaded s a ft d = record { words = s; entries = d.entries; first = a; second = d.second; firsttokens = ft; secondtokens = d.secondtokens; records = d.records }

-- a load of this file was lent words and tables, whatever stood there, left these, and answered 0
pub record LoadsLent (b : List ℕ) (d : Device) : Type 0 where
  pub before : Device
  pub reply : Result ⊤ BadFile
  pub loads : LoadsOver b before.words before.first before.firsttokens d.words d.first d.firsttokens reply
  pub answered : load_answer reply ≡ done
  pub leaves : with_loaded d.words d.first d.firsttokens before ≡ d

pub lent-load-is-by-value : (b : List ℕ) (d : Device) → LoadsLent b d → Loads b d
lent-load-is-by-value b d k =
    record {
      before = k.before;
      reply = record { answer = k.reply; device = with_loaded d.words d.first d.firsttokens k.before };
      loads = loaded k.before b k.reply d.words d.first d.firsttokens k.loads;
      answered = k.answered;
      leaves = k.leaves;
    }

-- the layer
abbrev pub over_lent : Layer
over_lent =
    layer_of (λ memory d. Makes memory d.words) LoadsLent Gives
    (λ memory d k. is_made memory d.words d.entries d.first d.second d.firsttokens d.secondtokens d.records k) (λ b d k. lent-load-is-by-value b d k) (λ d m c r d' m' k. is-by-value k)
