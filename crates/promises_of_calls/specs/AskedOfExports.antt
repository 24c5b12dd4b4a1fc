-- The exports with saves, loads and moves among them: what a host asked leads where the rules lead, so the completed fence, the error, the resources and the tokens are
-- what settlings, bad rings, resets and loads of good files made of them; and between a make, a reset or a load and the next a token lives on. Assumes nothing.
use Rattle.std.specs.Prelude.{◌≡◌, refl, List, [], ◌∷◌, ℕ}
use Rattle.std.proofs.Common.{ap, ◌∙◌}
use Rattle.rules.specs.State.{World}
use Rattle.rules.specs.Loaded.{call_load}
use Rattle.rules.specs.declared.Form.{Form}
use Rattle.device.specs.Views.{state_of}
use Rattle.device.specs.declared.Device.{Device}
use Rattle.zelezmut.specs.Said.{SaysSaved, SaysLoaded, SaysMoved}
use Rattle.promises_of_units.specs.Called.{Call}
use Rattle.promises_of_units.specs.Asked.{Asked, left, left_all}
use Rattle.promises_of_units.specs.Asked.Asked.{calls, saves, loads, moves}
use Rattle.promises_of_calls.specs.OverLent.{with_loaded}
use Rattle.promises_of_calls.specs.Exports.{Said, Gives, exports}

-- exports that were called one after the other, each lent a memory, a buffer or a file of its own
pub data AskedInTurn : Device → List Asked → Device → Type 0 where
  ends : {d : Device} → AskedInTurn d [] d
  called : {d d' e : Device} {qs : List Asked} (c : Call) (m : List ℕ) (x : Said) (m' : List ℕ) → Gives d m c x d' m' → AskedInTurn d' qs e → AskedInTurn d (calls c m ∷ qs) e
  saved : {d e : Device} {qs : List Asked} (f : Form) (buffer : List ℕ) (n : ℕ) (buffer' : List ℕ)
      → SaysSaved f d.words d.first d.second d.firsttokens d.secondtokens buffer n buffer' → AskedInTurn d qs e → AskedInTurn d (saves f buffer ∷ qs) e
  loaded : {d e : Device} {qs : List Asked} (file : List ℕ) (n : ℕ) (s a ft : List ℕ) → SaysLoaded d.words d.first d.firsttokens file n s a ft
      → AskedInTurn (with_loaded s a ft d) qs e → AskedInTurn d (loads file ∷ qs) e
  moved : {d e : Device} {qs : List Asked} (file buffer : List ℕ) (n : ℕ) (buffer' : List ℕ) → SaysMoved file buffer n buffer' → AskedInTurn d qs e
      → AskedInTurn d (moves file buffer ∷ qs) e

-- they lead where the rules lead
pub asked-leads : {d e : Device} {qs : List Asked} → AskedInTurn d qs e → state_of e ≡ left_all qs (state_of d)
unfolding left_all left
asked-leads ends = refl
asked-leads {d = d} (called {d' = d'} {qs = qs} c m x m' k p) =
    asked-leads p ∙ ap (left_all qs) (ap (λ (u : World). u.state) (exports.gives-world d m c x d' m' k))
asked-leads (saved f buffer n buffer' k p) = asked-leads p
asked-leads {d = d} (loaded {qs = qs} file n s a ft k p) =
    let is : state_of (with_loaded s a ft d) ≡ (call_load (state_of d) file).state = k.state d.entries d.second d.secondtokens d.records in
    asked-leads p ∙ ap (left_all qs) is
asked-leads (moved file buffer n buffer' k p) = asked-leads p
