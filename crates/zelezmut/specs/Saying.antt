-- What the saying of a call's values asks. Assumes nothing.
use Rattle.std.specs.Prelude.{◌≡◌, Bool, List, ℕ, ◌<◌, Result, Ok, Err, ⊤}
use Rattle.std.specs.Result.{result_unwrap_or}
use Rattle.std.proofs.Common.{sym, ap, subst, ◌∙◌, arith, rules}
use Rattle.rules.specs.Calls.{RecordRead as RecordReadBy, Ran, no_range, call_run, call_answer}
use Rattle.run_state.specs.Views.{set_in, desk_in, lent, Refused}
use Rattle.rules.specs.Saved.{Saved}
use Rattle.rules.specs.Loaded.{Loaded, call_move}
use Rattle.rules.specs.declared.Form.{Form}
use Rattle.saved_save.specs.Views.{saved_of, Saves}
use Rattle.call_errors.specs.Answers.{answer_of}
use Rattle.call_errors.specs.declared.CallError.{CallError}
use Rattle.saved_load.specs.Views.{load_answer, load_place, Loads}
use Rattle.saved_load.specs.declared.BadFile.{BadFile}
use Rattle.device_calls.specs.Views.{Makes, Reads, GivesRecord}
use Rattle.rules.specs.declared.Record.{Record}
use Rattle.device_memory_calls.specs.Views.{ran_of, Runs, Answers}
use Rattle.device_memory_calls.specs.declared.Spent.{Spent}
use Rattle.dump_listing.specs.Views.{Dumped, call_dump, dumped_of, Dumps}
use Rattle.dump_listing.specs.Packets.{answer-small}
use Rattle.export_numbers.specs.Numbers.{said_beside, said_long, said_value, said_run, said_spent, record_words}
use Rattle.zelezmut.specs.Said.{SaysValue, SaysSpent, SaysRun, SaysAnswer, SaysRecord, SaysSaved, SaysLoaded, SaysMoved, SaysDumped}
use Rattle.rules.specs.Numbers.{done, bad_file}
use Rattle.rules.specs.Table.{table_finding, table_error, table_place}
use Rattle.rules.specs.declared.Fault.{Fault}
use Rattle.table_whole.specs.Whole.{shown}

-- ---- zelezmut_read

pub says-value : (s : List ℕ) (offset n : ℕ) (x : Result ℕ CallError) → Reads s offset x → n ≡ said_beside (result_unwrap_or x 0) (answer_of x) → SaysValue s offset n
says-value s offset n x k p = record { value = λ e f g ft st c. p ∙ ap said_value (k.value e f g ft st c) }

pub ruleset saying_value = (says-value, rules)

-- ---- zelezmut_save, zelezmut_save_form_2, zelezmut_load

pub says-saved : (f : Form) (s a b ft st buffer buffer' : List ℕ) (n : ℕ) (x : Result ℕ CallError) → Saves f s a b ft st buffer x buffer'
    → n ≡ said_beside (result_unwrap_or x 0) (answer_of x) → SaysSaved f s a b ft st buffer n buffer'
says-saved f s a b ft st buffer buffer' n x k p =
    record {
      length = λ e c. p ∙ ap (λ (y : Saved). said_beside y.length y.answer) (k.saves e c);
      bytes = λ e c. ap (λ (y : Saved). y.buffer) (k.saves e c);
    }

pub says-loaded : (s a ft file s' a' ft' : List ℕ) (n : ℕ) (x : Result ⊤ BadFile) → Loads file s a ft s' a' ft' x → n ≡ said_beside (load_place x) (load_answer x)
    → SaysLoaded s a ft file n s' a' ft'
says-loaded s a ft file s' a' ft' n x k p =
    record {
      place = λ e b st c. p ∙ ap (λ (y : Loaded). said_beside y.place y.answer) (k.loads e b st c);
      state = λ e b st c. ap (λ (y : Loaded). y.state) (k.loads e b st c);
      still = λ e b st c z. k.refused (λ d. z (sym (ap (λ (y : Loaded). y.answer) (k.loads e b st c)) ∙ d));
    }

pub says-moved : (file buffer buffer' : List ℕ) (n : ℕ) (x : Result ℕ CallError) → saved_of x buffer' ≡ call_move file buffer → n ≡ said_beside (result_unwrap_or x 0) (answer_of x) → SaysMoved file buffer n buffer'
says-moved file buffer buffer' n x k p =
    record {
      length = p ∙ ap (λ (y : Saved). said_beside y.length y.answer) k;
      bytes = ap (λ (y : Saved). y.buffer) k;
    }

-- either end of a load
module _ (s a ft file s' a' ft' : List ℕ) (n : ℕ) (x : Result ⊤ BadFile) (k : Loads file s a ft s' a' ft' x) where
  pub says-taken : (t : ⊤) → x ≡ Ok t → n ≡ said_beside 0 done → SaysLoaded s a ft file n s' a' ft'
  says-taken t e p = says-loaded s a ft file s' a' ft' n x k (p ∙ ap (λ y. said_beside (load_place y) (load_answer y)) (sym e))

  pub says-refused : (b : BadFile) → x ≡ Err b → n ≡ said_beside b.place bad_file → SaysLoaded s a ft file n s' a' ft'
  says-refused b e p = says-loaded s a ft file s' a' ft' n x k (p ∙ ap (λ y. said_beside (load_place y) (load_answer y)) (sym e))

pub ruleset saying_saved = (says-saved, says-taken, says-refused, says-moved, rules)

-- ---- zelezmut_dump

module _ (strict w : ℕ) (g : Bool) (p : (w ≡ strict) × (w < 4294967296)) (q : g ≡ set_in w) (stream buffer buffer' : List ℕ) (x : Result ℕ CallError) (k : Dumps g stream buffer x buffer') where
  same-setting : g ≡ set_in strict
  same-setting = q ∙ ap set_in p.0

  pub says-dumped : (n : ℕ) → n ≡ said_long (result_unwrap_or x 0) (answer_of x) → SaysDumped (set_in strict) stream buffer n buffer'
  says-dumped n e =
      let d : dumped_of x buffer' ≡ call_dump (set_in strict) stream buffer = k.dumps ∙ ap (λ y. call_dump y stream buffer) same-setting in
      record {
        length = e ∙ ap (λ (y : Dumped). said_long y.length y.answer) d;
        bytes = ap (λ (y : Dumped). y.buffer) d;
      }

-- its answer is 0 or 6, and its length less than 2^36
pub dumped-fits : (g : Bool) (stream buffer : List ℕ) (x : Result ℕ CallError) (buffer' : List ℕ) → Dumps g stream buffer x buffer' → (result_unwrap_or x 0 < 72057594037927936) × (answer_of x < 256)
dumped-fits g stream buffer x buffer' k =
    (omega (arith, k.small), subst (λ a. a < 256) (sym (ap (λ (y : Dumped). y.answer) k.dumps)) (answer-small g stream buffer))

pub ruleset saying_dumped = (says-dumped, dumped-fits, rules)

-- ---- zelezmut_run, zelezmut_answer

module _ (s e a b ft st c m s' e' a' b' ft' st' c' m' : List ℕ) (x : Result Spent CallError) (n : ℕ) (is : n ≡ said_spent x) where
  says-spent : (r : Ran) → ran_of x (lent s' e' a' b' ft' st' c' m') ≡ r → (Refused (answer_of x) → lent s' e' a' b' ft' st' c' m' ≡ lent s e a b ft st c m) → SaysSpent r (lent s e a b ft st c m) n (lent s' e' a' b' ft' st' c' m')
  says-spent r k still =
      record {
        spent = is ∙ ap said_run k;
        world = ap (λ (y : Ran). y.world) k;
        still = λ z. still (λ d. z (sym (ap (λ (y : Ran). y.answer) k) ∙ d));
      }

  pub says-run : (allowance : ℕ) → Runs allowance (lent s e a b ft st c m) x (lent s' e' a' b' ft' st' c' m') → SaysRun allowance (lent s e a b ft st c m) n (lent s' e' a' b' ft' st' c' m')
  says-run allowance k = says-spent (call_run (desk_in s e a b ft st c m) allowance) k.ran k.still

  pub says-answer : (good w allowance : ℕ) (g : Bool) → (w ≡ good) × (w < 4294967296) → g ≡ set_in w → Answers g allowance (lent s e a b ft st c m) x (lent s' e' a' b' ft' st' c' m')
      → SaysAnswer (set_in good) allowance (lent s e a b ft st c m) n (lent s' e' a' b' ft' st' c' m')
  says-answer good w allowance g p q k =
      let same : g ≡ set_in good = q ∙ ap set_in p.0 in
      says-spent (call_answer (desk_in s e a b ft st c m) (set_in good) allowance) (k.ran ∙ ap (λ y. call_answer (desk_in s e a b ft st c m) y allowance) same) k.still

pub ruleset saying_run = (says-run, says-answer, rules)

-- ---- zelezmut_record

pub says-record : (s c : List ℕ) (i : ℕ) (x : Result Record CallError) (said : List ℕ) → GivesRecord s c i x → said ≡ record_words (result_unwrap_or x no_range) → SaysRecord s c i (answer_of x) said
says-record s c i x said k p =
    record {
      answer = λ e a b ft st. ap (λ (h : RecordReadBy). h.answer) (k.hands e a b ft st);
      range = λ e a b ft st. p ∙ ap (λ (h : RecordReadBy). record_words h.range) (k.hands e a b ft st);
    }

pub ruleset saying_record = (says-record, rules)

-- ---- zelezmut_make

pub made_at : (memory n : ℕ) (s' : List ℕ) → n ≡ memory → Makes n s' → Makes memory s'
made_at memory n s' p k = rw (← p) k

pub ruleset handing_on = (made_at, rules)

-- ---- zelezmut_table_error, zelezmut_table_place

module _ (b : List ℕ) (memory : ℕ) (f : Fault) (found : f ≡ shown (table_finding b memory)) where
  pub says-error : f.code ≡ table_error b memory
  unfolding table_error
  says-error = rw found

  pub says-place : f.place ≡ table_place b memory
  unfolding table_place
  says-place = rw found

pub ruleset saying_fault = (says-error, says-place, rules)
