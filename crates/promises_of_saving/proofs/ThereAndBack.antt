-- A file of form 1 that is moved to form 2 and back is the file that it was. Assumes nothing.
use Rattle.std.specs.Prelude.{◌≡◌, List, ℕ, ◌+◌, ◌≤◌, length}
use Rattle.rules.specs.Numbers.{done}
use Rattle.rules.specs.Lists.{over}
use Rattle.rules.specs.Lists.Found.{none}
use Rattle.rules.specs.Loaded.{form_in, bad_place, call_move}
use Rattle.rules.specs.declared.Form.TheVariants.{One}
use Rattle.promises_of_submissions.specs.LentBytes.{OfBytes}
use Rattle.promises_of_saving.specs.Numbered.{with_number}
use Rattle.promises_of_saving.specs.Moved.{move_wrote}
use Rattle.promises_of_saving.proofs.Moved.{form-1-moves, moves-there-and-back}

-- ---- and back

-- of a form 1 file, with room for both
pub form-1-moves-there-and-back : (b : List ℕ) → OfBytes b → bad_place b ≡ none → form_in b ≡ One → (buffer back : List ℕ)
    → 12 + length (with_number b) ≤ length buffer → length (with_number b) ≤ length back
    → ((call_move b buffer).answer ≡ done)
    × (call_move (move_wrote b buffer) back ≡ record { answer = done; length = length (with_number b); buffer = over 0 (with_number b) back })
form-1-moves-there-and-back b o good form buffer back room space =
    let d : (call_move b buffer).answer ≡ done = form-1-moves b o good form buffer room in
    (d, moves-there-and-back b buffer o d back space)
