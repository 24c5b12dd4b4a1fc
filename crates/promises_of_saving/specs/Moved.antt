-- "one load for all, and a move between forms": a file that moves says the same device in the other form, and moves back to equal bytes. Every form 1
-- file moves, and a form 2 file exactly if it says nothing that form 1 has no field for. Assumes nothing.
use Rattle.std.specs.Prelude.{◌≡◌, true, List, ℕ, length, take}
use Rattle.rules.specs.Numbers.{done}
use Rattle.rules.specs.Lists.{over}
use Rattle.rules.specs.Lists.Found.{none}
use Rattle.rules.specs.Loaded.{form_in, has_number, bad_place, loaded, other_form, call_move}
use Rattle.rules.specs.declared.Form.{Form}
use Rattle.promises_of_submissions.specs.LentBytes.{OfBytes}
use Rattle.promises_of_saving.specs.SameDevice.{SameDevice}

-- ---- what a move writes

-- a good file of the other form, with its number, that says the same device
pub record MovedFile (b c : List ℕ) : Type 0 where
  pub bytes : OfBytes c
  pub form : form_in c ≡ other_form (form_in b)
  pub number : has_number c ≡ true
  pub good : bad_place c ≡ none
  pub same : SameDevice (loaded c) (loaded b)

-- the file that a move that was done wrote
abbrev pub move_wrote : List ℕ → List ℕ → List ℕ
move_wrote b buffer = take (call_move b buffer).length (call_move b buffer).buffer

module _ (b buffer : List ℕ) (o : OfBytes b) (d : (call_move b buffer).answer ≡ done) where
  abbrev pub other : Form
  other = other_form (form_in b)
