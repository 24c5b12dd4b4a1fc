-- "The same device behaves the same for ever", of something that was called: the desk of TwoSubmissions.antt after both submissions, and the desk that is loaded
-- from its file. Both were made or loaded and called, they keep their names in another order, and they behave the same for ever. Assumes nothing.
use Rattle.std.specs.Prelude.{◌≡◌, true, false, List, [], ◌∷◌, ℕ, ◌<◌, ◌^◌}
use Rattle.std.proofs.Common.{arith}
use Rattle.rules.specs.Packets.{Belongings}
use Rattle.rules.specs.State.{State, World, registers_of, no_error}
use Rattle.rules.specs.State.Work.{resting}
use Rattle.rules.specs.Saved.{saved}
use Rattle.rules.specs.Loaded.{loaded}
use Rattle.rules.specs.declared.Form.TheVariants.{Two}
use Rattle.rules.specs.declared.Resource.{Resource}
use Rattle.promises_of_saving.specs.SameDevice.{SameDevice}
use Rattle.promises_of_saving.specs.Savable.{FitsResource}
use Rattle.promises_of_units.specs.Called.{Called, after}
use Rattle.promises_of_units.specs.Called.Call.{runs, answers}
use Rattle.promises_of_same_desks.specs.ForEver.{SameForEver}
use Rattle.promises.specs.SharedWitness.{named}
use Rattle.promises.specs.TwoSubmissions.{rung, after_second}

-- ---- the desk after both submissions

abbrev pub both_done : World
both_done = after (answers true 0) (after (runs 65535) (after (answers true 1) (after (runs 65535) rung)))

unfoldable pub served_desk : State
served_desk = record { memory = 344; regs = registers_of 0 192 true 0 8 true false 0 no_error true; belongings = after_second; work = resting }

-- ---- and the one that is loaded from its file

pub fits-name : (k : ℕ) → k < 2 ^ 32 → FitsResource (named k 3)
fits-name k small =
    record {
      handle = small;
      kind = record { format = omega arith; width = omega arith; height = omega arith; mips = omega arith; layers = omega arith };
      bytes = omega arith;
      pitch = omega arith;
      backing = omega arith;
      offset = omega arith;
      lowest = omega arith;
    }

abbrev pub loaded_desk : State
loaded_desk = loaded (saved Two served_desk)

-- ---- they are the same, and not equal: the loaded one keeps name 3 before name 5

abbrev pub first_of : List Resource → ℕ
first_of [] = 0
first_of (r ∷ rs) = r.handle

abbrev pub first_name : Belongings → ℕ
first_name b = first_of b.resources

pub record SameNotEqual (s t : State) : Type 0 where
  pub one_is_called : Called s
  pub other_is_called : Called t
  pub same : SameDevice s t
  pub not_equal : s ≡ t → ⊥
  pub for-ever : SameForEver s t
