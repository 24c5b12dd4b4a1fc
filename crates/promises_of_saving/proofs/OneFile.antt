-- The theorems of specs/OneFile.antt, and what they rest on. Assumes nothing.
use Rattle.std.specs.Prelude.{◌≡◌, true, false}
use Rattle.std.proofs.Common.{sym, subst}
use Rattle.rules.specs.State.{State}
use Rattle.rules.specs.Calls.{at_rest}
use Rattle.rules.specs.Saved.{saved, beyond}
use Rattle.rules.specs.Loaded.{loaded}
use Rattle.rules.specs.declared.Form.{Form}
use Rattle.promises_of_saving.specs.SameDevice.{SameDevice, same-turned, same-through}
use Rattle.promises_of_saving.specs.Savable.{Savable}
use Rattle.promises_of_saving.proofs.LoadOfSave.{same_back}

-- and nothing of the device is left out of it
pub one-file-same-devices : (f : Form) (s t : State) → Savable s → Savable t → at_rest s.work ≡ true → at_rest t.work ≡ true → beyond f s ≡ false → beyond f t ≡ false
    → saved f s ≡ saved f t → SameDevice s t
one-file-same-devices f s t v w rest still form fine e =
    let a : SameDevice (loaded (saved f s)) s = same_back f s v form rest in
    let b : SameDevice (loaded (saved f t)) t = same_back f t w fine still in
    let c : SameDevice (loaded (saved f s)) t = subst (λ x. SameDevice (loaded x) t) (sym e) b in
    same-through s (loaded (saved f s)) t (same-turned (loaded (saved f s)) s a) c
