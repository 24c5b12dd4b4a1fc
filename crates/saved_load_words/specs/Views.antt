-- The words that a good file says.
use Rattle.std.specs.Prelude.{◌≡◌, List, ℕ, ◌+◌, ◌<◌, eqb, set}
use Rattle.rules.specs.Layouts.{word, long}
use Rattle.rules.specs.Registers.{bit_of}
use Rattle.rules.specs.State.{State}
use Rattle.rules.specs.State.Work.{resting}
use Rattle.rules.specs.declared.Resource.{Resource}
use Rattle.rules.specs.declared.Token.{Token}
use Rattle.kept_resources.specs.Views.{resources_of}
use Rattle.kept_tokens.specs.Views.{tokens_of}
use Rattle.run_state.specs.Views.{flag_of, Rests, state_in}
use Rattle.rules.specs.Saved.{memory_place}
use Rattle.rules.specs.Loaded.{detail_in, loaded_registers}
use Rattle.rules.specs.declared.Form.{Form}

-- ---- the words in three parts; the memory's length stands at this place

abbrev pub ring_words : ℕ → List ℕ → List ℕ → List ℕ
ring_words memory b w =
    set (set (set (set (set (set w 0 (long b memory)) 1 (long b 20)) 2 (word b 28)) 3 (flag_of (eqb (word b 32) 1))) 4 (long b 36)) 5 (long b 44)

abbrev pub status_words : ℕ → List ℕ → List ℕ → List ℕ
status_words memory b w =
    set (set (set (set w 6 (flag_of (bit_of 0 (word b 52)))) 7 (flag_of (bit_of 1 (word b 52)))) 8 (word b 56)) 12 (flag_of (eqb (word b (memory + 8)) 1))

abbrev pub error_words : ℕ → List ℕ → List ℕ → List ℕ
error_words detail b w = set (set (set (set w 9 (word b 60)) 10 (long b 64)) 11 (word b 72)) 30 detail

abbrev pub register_words : Form → List ℕ → List ℕ → List ℕ
register_words f b w = error_words (detail_in f b) b (status_words (memory_place f) b (ring_words (memory_place f) b w))

-- the device that a file says, with these resources and tokens
abbrev pub loaded_with : Form → List ℕ → List Resource → List Token → State
loaded_with f b rs ts =
    record { memory = long b (memory_place f); regs = loaded_registers f b; belongings = record { resources = rs; tokens = ts }; work = resting }

-- ---- contracts

-- the words that registers are, and which numbers among them are of four bytes
pub record LoadsRegisters (f : Form) (b s s' : List ℕ) : Type 0 where
  pub words : s' ≡ register_words f b s
  pub size : word b 28 < 4294967296
  pub enable : word b 56 < 4294967296
  pub code : word b 60 < 4294967296
  pub count : word b 72 < 4294967296
  pub detail : detail_in f b < 4294967296

-- the words of a good file: its resources and tokens are the first rows of the first tables
pub record LoadsWords (f : Form) (b : List ℕ) (live used : ℕ) (s' : List ℕ) : Type 0 where
  pub state : (e a₁ a₂ ft st c : List ℕ) → state_in s' e a₁ a₂ ft st c ≡ loaded_with f b (resources_of live a₁) (tokens_of used ft)
  pub rests : Rests s'
