-- The theorems of specs/SameDesks.antt, and what they rest on. Assumes nothing.
use Rattle.std.specs.Prelude.{◌≡◌, refl, List, [], ◌∷◌, ℕ, take}
use Rattle.std.proofs.Common.{sym, ap, subst, ◌∙◌}
use Rattle.rules.specs.Numbers.{done}
use Rattle.rules.specs.State.{State, World}
use Rattle.rules.specs.Saved.{call_save}
use Rattle.rules.specs.Loaded.{call_load, call_move}
use Rattle.rules.specs.declared.Form.{Form}
use Rattle.saved_save.specs.Views.{saved_of, Saves}
use Rattle.std.specs.Prelude.{Result}
use Rattle.std.specs.Result.{result_unwrap_or}
use Rattle.call_errors.specs.Answers.{answer_of}
use Rattle.call_errors.specs.declared.CallError.{CallError}
use Rattle.device.specs.Views.{state_of}
use Rattle.device.specs.declared.Device.{Device}
use Rattle.export_numbers.specs.Numbers.{said_beside}
use Rattle.promises_of_saving.specs.SameDevice.{SameDevice}
use Rattle.promises_of_units.specs.Sound.{SoundState}
use Rattle.promises_of_units.specs.Called.{Call, after}
use Rattle.promises_of_units.proofs.Ranges.{called-sound, call-keeps-sound}
use Rattle.promises_of_units.specs.Replies.{reply_to}
use Rattle.promises_of_submissions.specs.Locality.{lent}
use Rattle.promises_of_same_desks.specs.Desks.{SameDesk}
use Rattle.promises_of_same_desks.proofs.Desks.{same-desk}
use Rattle.promises_of_same_desks.specs.Calls.{SameCall}
use Rattle.promises_of_same_desks.proofs.Calls.{call_same}
use Rattle.promises_of_same_desks.specs.ForEver.{told}
use Rattle.promises_of_same_desks.proofs.ForEver.{told_same, left-same, left-sound}
use Rattle.promises_of_units.specs.Asked.{Asked, left, left_all}
use Rattle.promises_of_calls.specs.Layers.{Layer}
use Rattle.promises_of_calls.specs.ByValue.{by_value}
use Rattle.promises_of_calls.specs.OverLent.{over_lent, with_loaded}
use Rattle.promises_of_calls.specs.Exports.{said, exports}
use Rattle.promises_of_calls.specs.Calls.{MadeAndCalled}
use Rattle.promises_of_calls.proofs.Calls.{made_and_called}
use Rattle.promises_of_calls.specs.Calls.MadeAndCalled.{loaded-one}
use Rattle.promises_of_calls.specs.Saving.{OfWords}
use Rattle.promises_of_calls.proofs.Saving.{device-saved-and-loaded, lent-saved-and-loaded}
use Rattle.promises_of_calls.specs.SameDesks.{AsTold, Course, Goes, Heard, Leaves, Lends, SameCourse, SameGiven, SameHeard, hear, hear_all, heard-next}
use Rattle.promises_of_calls.specs.SameDesks.Course.{called, ends, loaded, moved, saved}
use Rattle.promises_of_calls.specs.SameDesks.Goes.{goes, stays}
use Rattle.promises_of_calls.specs.SameDesks.Heard.{alone, beside_buffer, beside_memory}

-- ---- one call

module _ (L : Layer) (c : Call) (m : List ℕ) (d e d' e' : L.Device) (x y : L.Said) (m' n' : List ℕ) (a : L.Gives d m c x d' m') (b : L.Gives e m c y e' n') where
  pub one-call-same : SoundState (L.state d) → SoundState (L.state e) → SameDesk (L.state d) (L.state e) → SameGiven L x y m' n' d' e'
  one-call-same s t same =
      let k : SameCall c (lent (L.state d) m) (lent (L.state e) m) = call_same c (lent (L.state d) m) (lent (L.state e) m) s t (record { state = same; mem = refl }) in
      let w : lent (L.state d') m' ≡ after c (lent (L.state d) m) = L.gives-world d m c x d' m' a in
      let v : lent (L.state e') n' ≡ after c (lent (L.state e) m) = L.gives-world e m c y e' n' b in
      record {
        said = L.gives-reply d m c x d' m' a ∙ (ap (L.said c) k.reply ∙ sym (L.gives-reply e m c y e' n' b));
        memory = ap (λ (u : World). u.mem) w ∙ (k.world.mem ∙ sym (ap (λ (u : World). u.mem) v));
        devices =
            subst (λ (u : World). SameDesk u.state (L.state e')) (sym w)
            (subst (λ (u : World). SameDesk (after c (lent (L.state d) m)).state u.state) (sym v) k.world.state);
      }

  pub gives-sound : SoundState (L.state d) → SoundState (L.state d')
  gives-sound s = subst (λ (u : World). SoundState u.state) (sym (L.gives-world d m c x d' m' a)) (call-keeps-sound c (lent (L.state d) m) s)

-- ---- any calls

pub same-course : {L : Layer} {d e d' e' : L.Device} {qs : List Lends} {xs ys : List (Leaves L)} → Goes L d qs xs d' → Goes L e qs ys e'
    → SoundState (L.state d) → SoundState (L.state e) → SameDesk (L.state d) (L.state e) → SameCourse L xs ys d' e'
same-course stays stays s t same = record { said = refl; devices = same }
same-course {L} {d = d} {e = e} (goes {d' = d₁} c m x m' a p) (goes {d' = e₁} _ _ y n' b q) s t same =
    let k : SameGiven L x y m' n' d₁ e₁ = one-call-same L c m d e d₁ e₁ x y m' n' a b s t same in
    let r = same-course p q (gives-sound L c m d e d₁ e₁ x y m' n' a b s) (gives-sound L c m e d e₁ d₁ y x n' m' b a t) k.devices in
    record { said = rw (k.said, k.memory, r.said); devices = r.devices }

-- of devices that were made and called, and are the same: and so of two that were saved and loaded (Saving.antt)
pub same-devices-same-course : {L : Layer} {d e d' e' : L.Device} {qs : List Lends} {xs ys : List (Leaves L)} → Goes L d qs xs d' → Goes L e qs ys e'
    → MadeAndCalled L d → MadeAndCalled L e → SameDevice (L.state d) (L.state e) → SameCourse L xs ys d' e'
same-devices-same-course {L} {d = d} {e = e} p q a b same =
    same-course p q (called-sound (L.state d) (made_and_called L d a)) (called-sound (L.state e) (made_and_called L e b)) (same-desk (L.state d) (L.state e) same)

-- ---- the exports, with saves, loads and moves among them

pub course-is-told : {d e : Device} {qs : List Asked} {xs : List Heard} → Course d qs xs e → AsTold d qs xs e
unfolding hear_all left_all told left
course-is-told ends = record { heard = refl; state = refl }
course-is-told {d = d} (called {d' = d'} {qs = qs} c m x m' k p) =
    let r = course-is-told p in
    let w : lent (state_of d') m' ≡ after c (lent (state_of d) m) = exports.gives-world d m c x d' m' k in
    let s : state_of d' ≡ (after c (lent (state_of d) m)).state = ap (λ (u : World). u.state) w in
    record {
      heard =
          heard-next _ _ _ _
          (ap (λ y. beside_memory y m') (exports.gives-reply d m c x d' m' k) ∙ ap (λ (u : World). beside_memory (said c (reply_to c (lent (state_of d) m))) u.mem) w)
          (r.heard ∙ ap (hear_all qs) s);
      state = r.state ∙ ap (left_all qs) s;
    }
course-is-told {d = d} (saved f buffer n buffer' k p) =
    let r = course-is-told p in
    record {
      heard =
          heard-next _ _ _ _
          (ap (λ i. beside_buffer i buffer') (k.length d.entries d.records)
          ∙ ap (beside_buffer (said_beside (call_save f (state_of d) buffer).length (call_save f (state_of d) buffer).answer)) (k.bytes d.entries d.records))
          r.heard;
      state = r.state;
    }
course-is-told {d = d} (loaded {qs = qs} file n s a ft k p) =
    let r = course-is-told p in
    let is : state_of (with_loaded s a ft d) ≡ (call_load (state_of d) file).state = k.state d.entries d.second d.secondtokens d.records in
    record {
      heard = heard-next _ _ _ _ (ap alone (k.place d.entries d.second d.secondtokens d.records)) (r.heard ∙ ap (hear_all qs) is);
      state = r.state ∙ ap (left_all qs) is;
    }
course-is-told (moved file buffer n buffer' k p) =
    let r = course-is-told p in
    record {
      heard =
          heard-next _ _ _ _ (ap (λ i. beside_buffer i buffer') k.length ∙ ap (beside_buffer (said_beside (call_move file buffer).length (call_move file buffer).answer)) k.bytes)
          r.heard;
      state = r.state;
    }

-- two devices that are the same desk hear the same, and are the same desk after it
all-heard : (qs : List Asked) (s t : State) → SoundState s → SoundState t → SameDesk s t → hear_all qs s ≡ hear_all qs t
unfolding hear_all
all-heard [] s t x y d = refl
all-heard (a ∷ qs) s t x y d =
    heard-next _ _ _ _ (ap (hear a) (told_same a s t x y d)) (all-heard qs (left a s) (left a t) (left-sound a s x) (left-sound a t y) (left-same a s t x y d))

all_left : (qs : List Asked) (s t : State) → SoundState s → SoundState t → SameDesk s t → SameDesk (left_all qs s) (left_all qs t)
unfolding left_all
all_left [] s t x y d = d
all_left (a ∷ qs) s t x y d = all_left qs (left a s) (left a t) (left-sound a s x) (left-sound a t y) (left-same a s t x y d)

pub exports-hear-the-same : {d e d' e' : Device} {qs : List Asked} {xs ys : List Heard} → Course d qs xs d' → Course e qs ys e'
    → MadeAndCalled exports d → MadeAndCalled exports e → SameDevice (state_of d) (state_of e) → SameHeard xs ys d' e'
exports-hear-the-same {d = d} {e = e} {d' = d'} {e' = e'} {qs = qs} p q a b same =
    let x = course-is-told p in
    let y = course-is-told q in
    let s : SoundState (state_of d) = called-sound (state_of d) (made_and_called exports d a) in
    let t : SoundState (state_of e) = called-sound (state_of e) (made_and_called exports e b) in
    let k : SameDesk (state_of d) (state_of e) = same-desk (state_of d) (state_of e) same in
    record {
      heard = x.heard ∙ (all-heard qs (state_of d) (state_of e) s t k ∙ sym y.heard);
      devices =
          subst (λ (u : State). SameDesk u (state_of e')) (sym x.state)
          (subst (λ (u : State). SameDesk (left_all qs (state_of d)) u) (sym y.state) (all_left qs (state_of d) (state_of e) s t k));
    }

-- ---- a desk that was saved, and loaded elsewhere: from then on both hear the same, whatever is asked of them

module _ (d e : Device) (w : OfWords d.words) (a : OfWords d.first) (b : OfWords d.second) (ft : OfWords d.firsttokens) (st : OfWords d.secondtokens)
    (f : Form) (buffer buffer' : List ℕ) where
  -- `Device::save` and `Device::load`
  pub a-saved-device-goes-on-elsewhere : MadeAndCalled by_value d → (x : Result ℕ CallError) → saved_of x buffer' ≡ call_save f (state_of d) buffer → answer_of x ≡ done
      → by_value.Loads (take (result_unwrap_or x 0) buffer') e
      → {d' e' : Device} {qs : List Lends} {xs ys : List (Leaves by_value)} → Goes by_value e qs xs e' → Goes by_value d qs ys d' → SameCourse by_value xs ys e' d'
  a-saved-device-goes-on-elsewhere c x s z l p q =
      same-devices-same-course p q (loaded-one (take (result_unwrap_or x 0) buffer') l) c (device-saved-and-loaded d e w a b ft st f buffer buffer' c x s z l)

  -- over lent state
  pub a-lent-desk-goes-on-elsewhere : MadeAndCalled over_lent d → (x : Result ℕ CallError)
      → Saves f d.words d.first d.second d.firsttokens d.secondtokens buffer x buffer' → answer_of x ≡ done → over_lent.Loads (take (result_unwrap_or x 0) buffer') e
      → {d' e' : Device} {qs : List Lends} {xs ys : List (Leaves over_lent)} → Goes over_lent e qs xs e' → Goes over_lent d qs ys d' → SameCourse over_lent xs ys e' d'
  a-lent-desk-goes-on-elsewhere c x s z l p q =
      same-devices-same-course p q (loaded-one (take (result_unwrap_or x 0) buffer') l) c (lent-saved-and-loaded d e w a b ft st f buffer buffer' c x s z l)
