-- A desk that was saved, or moved to the other form, and is loaded elsewhere goes on as the one that was saved. Assumes nothing.
use Rattle.std.specs.Prelude.{◌≡◌, List, ℕ, length, take}
use Rattle.std.proofs.Common.{ap}
use Rattle.rules.specs.Numbers.{done}
use Rattle.rules.specs.Lists.Found.{none}
use Rattle.rules.specs.State.{State}
use Rattle.rules.specs.Saved.{Saved, not_saved, call_save}
use Rattle.rules.specs.Loaded.{bad_place, loaded, call_load, call_move}
use Rattle.rules.specs.declared.Form.{Form}
use Rattle.promises_of_submissions.specs.LentBytes.{OfBytes}
use Rattle.promises_of_saving.specs.Savable.{Fits}
use Rattle.promises_of_saving.specs.LoadOfSave.{LoadedBack}
use Rattle.promises_of_saving.proofs.LoadOfSave.{load-of-save}
use Rattle.promises_of_saving.specs.Moved.{move_wrote}
use Rattle.promises_of_saving.proofs.Moved.{load-of-moved}
use Rattle.promises_of_units.specs.Sound.{SoundState}
use Rattle.promises_of_units.proofs.LoadedSound.{loaded-sound}
use Rattle.promises_of_units.specs.Asked.{Asked, left, left_all}
use Rattle.promises_of_units.specs.Asked.Asked.{saves}
use Rattle.promises_of_same_desks.proofs.Files.{save-same, load-is-sound}
use Rattle.promises_of_same_desks.specs.ForEver.{SameForEver}
use Rattle.promises_of_same_desks.proofs.ForEver.{sound-is-savable}
use Rattle.promises_of_same_desks.proofs.DesksForEver.{same-devices-for-ever}

-- ---- a desk that was saved, and loaded elsewhere

-- into whatever device t it is loaded: from then on it is told what the saved one would have been told
pub a-saved-desk-goes-on-elsewhere : (f : Form) (s t : State) → SoundState s → Fits s → (buffer : List ℕ) → (call_save f s buffer).answer ≡ done
    → SameForEver (call_load t (take (call_save f s buffer).length (call_save f s buffer).buffer)).state s
a-saved-desk-goes-on-elsewhere f s t k fits buffer e =
    let b : List ℕ = take (call_save f s buffer).length (call_save f s buffer).buffer in
    let l : LoadedBack s (call_load t b) = load-of-save f s (sound-is-savable s k fits) buffer e t in
    same-devices-for-ever (call_load t b).state s (load-is-sound t b l.answer) k l.device

-- "Loading either gives the same device": the device of a file and that of the file it was moved to behave the same for ever
pub a-moved-desk-goes-on-elsewhere : (b buffer : List ℕ) (t : State) → OfBytes b → bad_place b ≡ none → (call_move b buffer).answer ≡ done
    → SameForEver (call_load t (move_wrote b buffer)).state (loaded b)
a-moved-desk-goes-on-elsewhere b buffer t o good e =
    let l : LoadedBack (loaded b) (call_load t (move_wrote b buffer)) = load-of-moved b buffer o e t in
    same-devices-for-ever (call_load t (move_wrote b buffer)).state (loaded b) (load-is-sound t (move_wrote b buffer) l.answer) (loaded-sound b good) l.device
