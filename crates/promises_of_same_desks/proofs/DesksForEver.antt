-- Two devices that are the same desk are told the same for ever, and stay the same desk. Assumes nothing.
use Rattle.std.specs.Prelude.{◌≡◌, refl, List, [], ◌∷◌, ℕ}
use Rattle.std.proofs.Common.{ap, ◌∙◌}
use Rattle.rules.specs.State.{State}
use Rattle.rules.specs.Saved.{Saved, not_saved, call_save}
use Rattle.promises_of_saving.specs.SameDevice.{SameDevice}
use Rattle.promises_of_units.specs.Sound.{SoundState}
use Rattle.promises_of_units.specs.Asked.{Asked, left, left_all}
use Rattle.promises_of_units.specs.Asked.Asked.{saves}
use Rattle.promises_of_same_desks.specs.Desks.{SameDesk}
use Rattle.promises_of_same_desks.proofs.Desks.{same-desk}
use Rattle.promises_of_same_desks.proofs.Files.{save-same}
use Rattle.promises_of_same_desks.specs.ForEver.{SameForEver, told, told_all}
use Rattle.promises_of_same_desks.proofs.ForEver.{all_left, left-same, left-sound, told_same}

-- ---- any, for ever

all_told : (qs : List Asked) (s t : State) → SoundState s → SoundState t → SameDesk s t → told_all qs s ≡ told_all qs t
unfolding told_all
all_told [] s t x y d = refl
all_told (a ∷ qs) s t x y d =
    ap (λ r. r ∷ told_all qs (left a s)) (told_same a s t x y d)
    ∙ ap (λ l. told a t ∷ l) (all_told qs (left a s) (left a t) (left-sound a s x) (left-sound a t y) (left-same a s t x y d))

pub same-desks-for-ever : (s t : State) → SoundState s → SoundState t → SameDesk s t → SameForEver s t
same-desks-for-ever s t x y d = record { told = λ qs. all_told qs s t x y d; left = λ qs. all_left qs s t x y d }

pub same-devices-for-ever : (s t : State) → SoundState s → SoundState t → SameDevice s t → SameForEver s t
same-devices-for-ever s t x y d = same-desks-for-ever s t x y (same-desk s t d)
