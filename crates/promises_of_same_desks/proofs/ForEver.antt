-- The theorems of specs/ForEver.antt, and what they rest on. Assumes nothing.
use Rattle.std.specs.Prelude.{◌≡◌, refl, true, List, [], ◌∷◌, ℕ, length, take}
use Rattle.std.proofs.Common.{sym, ap, ◌∙◌, arith}
use Rattle.rules.specs.Numbers.{done}
use Rattle.rules.specs.State.{State}
use Rattle.rules.specs.Calls.{at_rest}
use Rattle.rules.specs.Saved.{saved, Saved, not_saved, call_save}
use Rattle.rules.specs.Loaded.{call_load}
use Rattle.rules.specs.declared.Form.TheVariants.{Two}
use Rattle.promises_of_submissions.specs.Locality.{lent}
use Rattle.promises_of_saving.specs.SameDevice.{SameDevice}
use Rattle.promises_of_saving.specs.Savable.{Fits, Savable}
use Rattle.promises_of_saving.specs.Refusals.{save-done, save-done-exactly, done-save-keeps-later-bytes}
use Rattle.promises_of_saving.proofs.OneFile.{one-file-same-devices}
use Rattle.promises_of_units.specs.Sound.{SoundState}
use Rattle.promises_of_units.specs.Called.{after}
use Rattle.promises_of_units.proofs.Ranges.{call-keeps-sound}
use Rattle.promises_of_units.specs.Replies.{reply_to}
use Rattle.promises_of_units.specs.Asked.{Asked, left, left_all}
use Rattle.promises_of_units.specs.Asked.Asked.{calls, saves, loads, moves}
use Rattle.promises_of_same_desks.specs.Desks.{SameDesk, SameWorld}
use Rattle.promises_of_same_desks.specs.Calls.{SameCall}
use Rattle.promises_of_same_desks.proofs.Calls.{call_same}
use Rattle.promises_of_same_desks.specs.Files.{SameLoaded}
use Rattle.promises_of_same_desks.proofs.Files.{save-same, load_same, load-keeps-sound}
use Rattle.promises_of_same_desks.specs.ForEver.{first_told, saved_in, told, told_all}
use Rattle.promises_of_same_desks.specs.ForEver.Told.{filed, judged, replied}

-- ---- one

lent_same : (s t : State) (m : List ℕ) → SameDesk s t → SameWorld (lent s m) (lent t m)
lent_same s t m d = record { state = d; mem = refl }

pub told_same : (a : Asked) (s t : State) → SoundState s → SoundState t → SameDesk s t → told a s ≡ told a t
unfolding told
told_same (calls c m) s t x y d =
    let k : SameCall c (lent s m) (lent t m) = call_same c (lent s m) (lent t m) x y (lent_same s t m d) in
    ap (λ r. replied r (after c (lent s m)).mem) k.reply ∙ ap (replied (reply_to c (lent t m))) k.world.mem
told_same (saves f buffer) s t x y d = ap filed (save-same s t x y d f buffer)
told_same (loads b) s t x y d =
    let k : SameLoaded (call_load s b) (call_load t b) = load_same s t d b in
    ap (λ n. judged n (call_load s b).place) k.answer ∙ ap (judged (call_load t b).answer) k.place
told_same (moves b buffer) s t x y d = refl

pub left-same : (a : Asked) (s t : State) → SoundState s → SoundState t → SameDesk s t → SameDesk (left a s) (left a t)
unfolding left
left-same (calls c m) s t x y d = (call_same c (lent s m) (lent t m) x y (lent_same s t m d)).world.state
left-same (saves f buffer) s t x y d = d
left-same (loads b) s t x y d = (load_same s t d b).state
left-same (moves b buffer) s t x y d = d

pub left-sound : (a : Asked) (s : State) → SoundState s → SoundState (left a s)
unfolding left
left-sound (calls c m) s k = call-keeps-sound c (lent s m) k
left-sound (saves f buffer) s k = k
left-sound (loads b) s k = load-keeps-sound s k b
left-sound (moves b buffer) s k = k

-- ---- any, for ever

pub all_left : (qs : List Asked) (s t : State) → SoundState s → SoundState t → SameDesk s t → SameDesk (left_all qs s) (left_all qs t)
unfolding left_all
all_left [] s t x y d = d
all_left (a ∷ qs) s t x y d = all_left qs (left a s) (left a t) (left-sound a s x) (left-sound a t y) (left-same a s t x y d)

-- ---- and no two others at rest do

-- a sound state whose numbers fit the fields of a file can be saved
pub sound-is-savable : (s : State) → SoundState s → Fits s → Savable s
sound-is-savable s k fits =
    record {
      error = k.error;
      few = k.belongings.resources.few;
      some = k.belongings.resources.some;
      once = k.belongings.resources.once;
      created = k.belongings.resources.created;
      names = k.belongings.resources.names;
      tokens = k.belongings.tokens;
      fits = fits;
    }

-- one save tells them apart, unless they are the same device
pub told-the-same-is-the-same : (s t : State) → SoundState s → SoundState t → Fits s → Fits t → at_rest s.work ≡ true
    → ((qs : List Asked) → told_all qs s ≡ told_all qs t) → SameDevice s t
unfolding told_all told first_told saved_in
told-the-same-is-the-same s t x y fits fits' rest same =
    let room : List ℕ = saved Two s in
    let e : call_save Two s room ≡ call_save Two t room = ap (λ l. saved_in (first_told l)) (same (saves Two room ∷ [])) in
    let a : (call_save Two s room).answer ≡ done = ap (λ (z : Saved). z.answer) (save-done Two s room rest refl (omega arith)) in
    let b : (call_save Two t room).answer ≡ done = sym (ap (λ (z : Saved). z.answer) e) ∙ a in
    one-file-same-devices Two s t (sound-is-savable s x fits) (sound-is-savable t y fits') rest ((save-done-exactly Two t room).0 b).rest refl refl
    (sym (done-save-keeps-later-bytes Two s room a).file
    ∙ (ap (λ (z : Saved). take z.length z.buffer) e ∙ (done-save-keeps-later-bytes Two t room b).file))
