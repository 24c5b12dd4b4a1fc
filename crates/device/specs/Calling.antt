-- The device's calls: what their code asks, of the calls on its words and tables. Assumes nothing.
use Rattle.std.specs.Prelude.{◌≡◌, Bool, List, ℕ, Result, ⊤}
use Rattle.std.proofs.Common.{rules}
use Rattle.rules.specs.State.{made}
use Rattle.rules.specs.Calls.{call_write, call_read, call_run, call_record, call_answer}
use Rattle.register_writes.specs.Views.{Writes}
use Rattle.device_calls.specs.Views.{value_of, record_read_of, Makes, Reads, GivesRecord}
use Rattle.rules.specs.declared.Record.{Record}
use Rattle.call_errors.specs.Answers.{answer_of}
use Rattle.call_errors.specs.declared.CallError.{CallError}
use Rattle.rules.specs.Saved.{call_save}
use Rattle.rules.specs.Loaded.{call_load}
use Rattle.rules.specs.declared.Form.{Form}
use Rattle.saved_save.specs.Views.{saved_of, Saves}
use Rattle.saved_load.specs.Views.{Loads}
use Rattle.saved_load.specs.declared.BadFile.{BadFile}
use Rattle.run_state.specs.Views.{lent}
use Rattle.device_memory_calls.specs.Views.{Runs, Answers}
use Rattle.device_memory_calls.specs.declared.Spent.{Spent}
use Rattle.device.specs.Views.{state_of, world_of, wrote_of, ran_of, loaded_of, LoadsDevice}
use Rattle.device.specs.declared.Device.{Device}

pub is_made : (memory : ℕ) (s e a b ft st c : List ℕ) → Makes memory s → state_of (record { words = s; entries = e; first = a; second = b; firsttokens = ft; secondtokens = st; records = c }) ≡ made memory
is_made memory s e a b ft st c k = k.new e a b ft st c

module _ (d : Device) where
  pub wrote : (offset v : ℕ) (answer : Result ⊤ CallError) (s' : List ℕ) → Writes d.words offset v (answer_of answer) s'
      → wrote_of (record { answer = answer; device = record { words = s'; entries = d.entries; first = d.first; second = d.second; firsttokens = d.firsttokens; secondtokens = d.secondtokens; records = d.records } }) ≡ call_write (state_of d) offset v
  wrote offset v answer s' k = k.wrote d.entries d.first d.second d.firsttokens d.secondtokens d.records

  pub read : (offset : ℕ) (x : Result ℕ CallError) → Reads d.words offset x → value_of x ≡ call_read (state_of d) offset
  read offset x k = k.value d.entries d.first d.second d.firsttokens d.secondtokens d.records

  pub record_read : (i : ℕ) (x : Result Record CallError) → GivesRecord d.words d.records i x → record_read_of x ≡ call_record (state_of d) i
  record_read i x k = k.hands d.entries d.first d.second d.firsttokens d.secondtokens

  pub ran : (m : List ℕ) (allowance : ℕ) (x : Result Spent CallError) (s' e' a' b' ft' st' c' m' : List ℕ) → Runs allowance (lent d.words d.entries d.first d.second d.firsttokens d.secondtokens d.records m) x (lent s' e' a' b' ft' st' c' m')
      → ran_of (record { answer = x; device = record { words = s'; entries = e'; first = a'; second = b'; firsttokens = ft'; secondtokens = st'; records = c' } }) m' ≡ call_run (world_of d m) allowance
  ran m allowance x s' e' a' b' ft' st' c' m' k = k.ran

  pub answered : (m : List ℕ) (good : Bool) (allowance : ℕ) (x : Result Spent CallError) (s' e' a' b' ft' st' c' m' : List ℕ) → Answers good allowance (lent d.words d.entries d.first d.second d.firsttokens d.secondtokens d.records m) x (lent s' e' a' b' ft' st' c' m')
      → ran_of (record { answer = x; device = record { words = s'; entries = e'; first = a'; second = b'; firsttokens = ft'; secondtokens = st'; records = c' } }) m' ≡ call_answer (world_of d m) good allowance
  answered m good allowance x s' e' a' b' ft' st' c' m' k = k.ran

  pub saved : (f : Form) (buffer buffer' : List ℕ) (x : Result ℕ CallError) → Saves f d.words d.first d.second d.firsttokens d.secondtokens buffer x buffer'
      → saved_of x buffer' ≡ call_save f (state_of d) buffer
  saved f buffer buffer' x k = k.saves d.entries d.records

  pub loaded : (file : List ℕ) (x : Result ⊤ BadFile) (s' a' ft' : List ℕ) → Loads file d.words d.first d.firsttokens s' a' ft' x
      → loaded_of (record { answer = x; device = record { words = s'; entries = d.entries; first = a'; second = d.second; firsttokens = ft'; secondtokens = d.secondtokens; records = d.records } }) ≡ call_load (state_of d) file
  loaded file x s' a' ft' k = k.loads d.entries d.second d.secondtokens d.records

  -- and all that a load of the words and tables says, of the device
  pub loaded-whole : (file : List ℕ) (x : Result ⊤ BadFile) (s' a' ft' : List ℕ) → Loads file d.words d.first d.firsttokens s' a' ft' x
      → LoadsDevice d file (record { answer = x; device = record { words = s'; entries = d.entries; first = a'; second = d.second; firsttokens = ft'; secondtokens = d.secondtokens; records = d.records } })
  loaded-whole file x s' a' ft' k =
      record {
        loads = loaded file x s' a' ft' k;
        refused = λ h. let same = k.refused h in rw (same.0, same.1.0, same.1.1);
        rests = k.rests;
      }

pub ruleset calling = (is_made, wrote, read, record_read, ran, answered, saved, loaded, rules)
