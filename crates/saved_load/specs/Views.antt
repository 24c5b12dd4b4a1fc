-- What loading leaves: the device that the file says, or the one that was there.
use Rattle.std.specs.Prelude.{◌≡◌, List, ℕ, Result, Ok, Err, ⊤}
use Rattle.rules.specs.Numbers.{done, bad_file}
use Rattle.rules.specs.State.{State}
use Rattle.rules.specs.Loaded.{Loaded, loaded, call_load}
use Rattle.run_state.specs.Views.{Rests, state_in, Refused}
use Rattle.saved_load.specs.declared.BadFile.{BadFile}

-- done at place 0, or a bad file and its place
abbrev pub load_answer : Result ⊤ BadFile → ℕ
load_answer (Ok x) = done
load_answer (Err e) = bad_file

abbrev pub load_place : Result ⊤ BadFile → ℕ
load_place (Ok x) = 0
load_place (Err e) = e.place

abbrev pub loaded_of : Result ⊤ BadFile → State → Loaded
loaded_of x s = record { answer = load_answer x; place = load_place x; state = s }

-- a good file: all of the device is what it says
pub record LoadsGood (b s' a' ft' : List ℕ) : Type 0 where
  pub state : (e a₂ st c : List ℕ) → state_in s' e a' a₂ ft' st c ≡ loaded b
  pub rests : Rests s'

-- any file: s, a and ft are the words and the first tables of resources and of tokens before, s', a' and ft' after
pub record Loads (b s a ft s' a' ft' : List ℕ) (x : Result ⊤ BadFile) : Type 0 where
  pub loads : (e a₂ st c : List ℕ) → loaded_of x (state_in s' e a' a₂ ft' st c) ≡ call_load (state_in s e a a₂ ft st c) b
  -- "device unchanged", to the last word
  pub refused : Refused (load_answer x) → (s' ≡ s) × ((a' ≡ a) × (ft' ≡ ft))
  pub rests : load_answer x ≡ done → Rests s'
