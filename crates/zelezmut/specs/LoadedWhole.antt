-- All that a load of words and tables says, of what the export hands back: beside what it promises, done, no word is left of what was in work. Assumes
-- nothing.
use Rattle.std.specs.Prelude.{◌≡◌, List, ℕ, Result, ⊤}
use Rattle.std.proofs.Common.{ap, ◌∙◌}
use Rattle.rules.specs.Numbers.{done}
use Rattle.rules.specs.Loaded.{Loaded, call_load}
use Rattle.run_state.specs.Views.{state_in, Rests}
use Rattle.saved_load.specs.Views.{load_answer, load_place, Loads}
use Rattle.saved_load.specs.declared.BadFile.{BadFile}
use Rattle.export_numbers.specs.Numbers.{said_beside}
use Rattle.zelezmut.specs.Said.{SaysLoaded}
use Rattle.zelezmut.specs.Saying.{says-loaded}

pub record SaysLoadedWhole (s a ft file : List ℕ) (said : ℕ) (s' a' ft' : List ℕ) : Type 0 where
  pub says : SaysLoaded s a ft file said s' a' ft'
  pub rests : (e b st c : List ℕ) → (call_load (state_in s e a b ft st c) file).answer ≡ done → Rests s'

pub says-loaded-whole : (s a ft file s' a' ft' : List ℕ) (n : ℕ) (x : Result ⊤ BadFile) → Loads file s a ft s' a' ft' x → n ≡ said_beside (load_place x) (load_answer x)
    → SaysLoadedWhole s a ft file n s' a' ft'
says-loaded-whole s a ft file s' a' ft' n x k p =
    record {
      says = says-loaded s a ft file s' a' ft' n x k p;
      rests = λ e b st c d. k.rests (ap (λ (y : Loaded). y.answer) (k.loads e b st c) ∙ d);
    }
