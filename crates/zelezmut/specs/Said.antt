-- What the exports say: the values of the rules' own call.
use Rattle.std.specs.Prelude.{◌≡◌, Bool, List, ℕ}
use Rattle.rules.specs.Calls.{Ran, call_read, call_run, call_record, call_answer}
use Rattle.rules.specs.Saved.{call_save}
use Rattle.rules.specs.Loaded.{call_load, call_move}
use Rattle.rules.specs.declared.Form.{Form}
use Rattle.run_state.specs.Views.{state_in, Lent, desk_of, Refused}
use Rattle.export_numbers.specs.Numbers.{said_beside, said_long, said_value, said_run, record_words}
use Rattle.dump_listing.specs.Views.{call_dump}

-- ---- the calls

-- the rules' read, of the device in the words
pub record SaysValue (s : List ℕ) (offset said : ℕ) : Type 0 where
  pub value : (e a b ft st c : List ℕ) → said ≡ said_value (call_read (state_in s e a b ft st c) offset)

-- what the rules' call comes to, of the device in the words and tables
pub record SaysSpent (r : Ran) (l : Lent) (said : ℕ) (l' : Lent) : Type 0 where
  pub spent : said ≡ said_run r
  pub world : desk_of l' ≡ r.world
  pub still : Refused r.answer → l' ≡ l

-- the rules' run
abbrev pub SaysRun : ℕ → Lent → ℕ → Lent → Type 0
SaysRun allowance l = SaysSpent (call_run (desk_of l) allowance) l

-- the rules' answer and run
abbrev pub SaysAnswer : Bool → ℕ → Lent → ℕ → Lent → Type 0
SaysAnswer good allowance l = SaysSpent (call_answer (desk_of l) good allowance) l

-- the rules' record, of the device in the words
pub record SaysRecord (s c : List ℕ) (i n : ℕ) (said : List ℕ) : Type 0 where
  pub answer : (e a b ft st : List ℕ) → n ≡ (call_record (state_in s e a b ft st c) i).answer
  pub range : (e a b ft st : List ℕ) → said ≡ record_words (call_record (state_in s e a b ft st c) i).range

-- the rules' save in a form, of the device in the words and in its tables of resources and of tokens
pub record SaysSaved (f : Form) (s a b ft st buffer : List ℕ) (said : ℕ) (buffer' : List ℕ) : Type 0 where
  pub length : (e c : List ℕ) → said ≡ said_beside (call_save f (state_in s e a b ft st c) buffer).length (call_save f (state_in s e a b ft st c) buffer).answer
  pub bytes : (e c : List ℕ) → buffer' ≡ (call_save f (state_in s e a b ft st c) buffer).buffer

-- the rules' load, over the device in the words and tables; one that is refused leaves each word
pub record SaysLoaded (s a ft file : List ℕ) (said : ℕ) (s' a' ft' : List ℕ) : Type 0 where
  pub place : (e b st c : List ℕ) → said ≡ said_beside (call_load (state_in s e a b ft st c) file).place (call_load (state_in s e a b ft st c) file).answer
  pub state : (e b st c : List ℕ) → state_in s' e a' b ft' st c ≡ (call_load (state_in s e a b ft st c) file).state
  pub still : (e b st c : List ℕ) → Refused (call_load (state_in s e a b ft st c) file).answer → (s' ≡ s) × ((a' ≡ a) × (ft' ≡ ft))

-- the rules' move of a file
pub record SaysMoved (file buffer : List ℕ) (said : ℕ) (buffer' : List ℕ) : Type 0 where
  pub length : said ≡ said_beside (call_move file buffer).length (call_move file buffer).answer
  pub bytes : buffer' ≡ (call_move file buffer).buffer

-- the text of a dump in the buffer
pub record SaysDumped (strict : Bool) (stream buffer : List ℕ) (said : ℕ) (buffer' : List ℕ) : Type 0 where
  pub length : said ≡ said_long (call_dump strict stream buffer).length (call_dump strict stream buffer).answer
  pub bytes : buffer' ≡ (call_dump strict stream buffer).buffer
