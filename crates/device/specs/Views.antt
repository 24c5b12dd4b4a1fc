-- A device by value as the rules' state, and what each call hands back as the rules' answer.
use Rattle.std.specs.Prelude.{◌≡◌, List, ℕ}
use Rattle.rules.specs.State.{State, World}
use Rattle.rules.specs.Calls.{Wrote as WroteBy, Ran as RanBy}
use Rattle.rules.specs.Numbers.{done}
use Rattle.rules.specs.Loaded.{Loaded as LoadedBy, call_load}
use Rattle.run_state.specs.Views.{state_in, desk_in, Refused, Rests}
use Rattle.call_errors.specs.Answers.{answer_of}
use Rattle.device_memory_calls.specs.Views.{spent_beside}
use Rattle.saved_load.specs.Views.{load_answer, load_place}
use Rattle.device.specs.declared.Device.{Device}
use Rattle.device.specs.declared.Wrote.{Wrote}
use Rattle.device.specs.declared.Ran.{Ran}
use Rattle.device.specs.declared.Loaded.{Loaded}

abbrev pub world_of : Device → List ℕ → World
world_of d m = desk_in d.words d.entries d.first d.second d.firsttokens d.secondtokens d.records m

abbrev pub state_of : Device → State
state_of d = state_in d.words d.entries d.first d.second d.firsttokens d.secondtokens d.records

abbrev pub wrote_of : Wrote → WroteBy
wrote_of r = record { answer = answer_of r.answer; state = state_of r.device }

abbrev pub ran_of : Ran → List ℕ → RanBy
ran_of r m = record { answer = answer_of r.answer; units = (spent_beside r.answer).units; ended = (spent_beside r.answer).ended; world = world_of r.device m }

abbrev pub loaded_of : Loaded → LoadedBy
loaded_of r = record { answer = load_answer r.answer; place = load_place r.answer; state = state_of r.device }

-- the rules' load; "device unchanged", to the last word and row, if it is refused; done, no word is left of what was in work
pub record LoadsDevice (d : Device) (file : List ℕ) (r : Loaded) : Type 0 where
  pub loads : loaded_of r ≡ call_load (state_of d) file
  pub refused : Refused (load_answer r.answer) → r.device ≡ d
  pub rests : load_answer r.answer ≡ done → Rests r.device.words
