-- The theorems of specs/SaveOfLoad.antt, and what they rest on. Assumes nothing.
use Rattle.std.specs.Prelude.{◌≡◌, List, ℕ, ◌≤◌, length}
use Rattle.std.proofs.Common.{ap, ◌∙◌}
use Rattle.rules.specs.Numbers.{done}
use Rattle.rules.specs.Lists.{over}
use Rattle.rules.specs.Lists.Found.{none}
use Rattle.rules.specs.State.{State}
use Rattle.rules.specs.Saved.{call_save}
use Rattle.rules.specs.Loaded.{Loaded, form_in, bad_place, call_load}
use Rattle.promises_of_submissions.specs.LentBytes.{OfBytes}
use Rattle.promises_of_saving.specs.Refusals.{kept-is-good, load-of-good, loaded-exactly}
use Rattle.promises_of_saving.specs.Numbered.{with_number}
use Rattle.promises_of_saving.specs.SaveOfLoad.{save-of-load}

-- ---- the theorems

-- the same of the two calls, one after the other, on any device
pub load-then-save : (s : State) (b : List ℕ) → OfBytes b → (call_load s b).answer ≡ done → (buffer : List ℕ) → length (with_number b) ≤ length buffer
    → call_save (form_in b) (call_load s b).state buffer ≡ record { answer = done; length = length (with_number b); buffer = over 0 (with_number b) buffer }
load-then-save s b o d buffer room =
    let good : bad_place b ≡ none = kept-is-good b ((loaded-exactly s b).0 d) in
    ap (λ (l : Loaded). call_save (form_in b) l.state buffer) (load-of-good s b good) ∙ save-of-load b o good buffer room
