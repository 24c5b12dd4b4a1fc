-- A desk that was saved and is loaded elsewhere goes on as the one that was saved, said of the exports. Assumes nothing.
use Rattle.std.specs.Prelude.{◌≡◌, List, ℕ, ◌/◌, take}
use Rattle.rules.specs.Numbers.{done}
use Rattle.rules.specs.declared.Form.{Form}
use Rattle.device.specs.declared.Device.{Device}
use Rattle.zelezmut.specs.Said.{SaysSaved}
use Rattle.promises_of_units.specs.Asked.{Asked}
use Rattle.promises_of_calls.specs.Exports.{exports}
use Rattle.promises_of_calls.specs.Calls.{MadeAndCalled}
use Rattle.promises_of_calls.specs.Calls.MadeAndCalled.{loaded-one}
use Rattle.promises_of_calls.specs.Saving.{OfWords}
use Rattle.promises_of_calls.proofs.Saving.{export-saved-and-loaded}
use Rattle.promises_of_calls.specs.SameDesks.{Course, Heard, SameHeard}
use Rattle.promises_of_calls.proofs.SameDesks.{exports-hear-the-same}

-- ---- a desk that was saved, and loaded elsewhere: from then on both hear the same, whatever is asked of them

module _ (d e : Device) (w : OfWords d.words) (a : OfWords d.first) (b : OfWords d.second) (ft : OfWords d.firsttokens) (st : OfWords d.secondtokens)
    (f : Form) (buffer buffer' : List ℕ) where
  -- `zelezmut_save` or `zelezmut_save_form_2`, and `zelezmut_load`
  pub a-saved-export-goes-on-elsewhere : MadeAndCalled exports d → (n : ℕ)
      → SaysSaved f d.words d.first d.second d.firsttokens d.secondtokens buffer n buffer' → n / 4294967296 ≡ done
      → exports.Loads (take n buffer') e → {d' e' : Device} {qs : List Asked} {xs ys : List Heard} → Course e qs xs e' → Course d qs ys d' → SameHeard xs ys e' d'
  a-saved-export-goes-on-elsewhere c n s z l p q =
      exports-hear-the-same p q (loaded-one (take n buffer') l) c (export-saved-and-loaded d e w a b ft st f buffer buffer' c n s z l)
