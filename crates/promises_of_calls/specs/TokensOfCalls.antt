-- 02, wish 5, of the calls that a host made, in any layer: a token lives from one submission to the next, over calls each lent any memory, of which none is a reset;
-- and a run of one unit that stands at an import of such a token goes on with one name more. Assumes nothing.
use Rattle.std.proofs.Math.Path.{◌≡◌}
use Rattle.std.specs.Prelude.{false, List, ℕ}
use Rattle.std.proofs.Common.{sym, subst}
use Rattle.rules.specs.State.{World}
use Rattle.promises_of_units.specs.Called.{Call, is_reset}
use Rattle.promises_of_sharing.specs.TokensOverCalls.{CalledOn}
use Rattle.promises_of_sharing.specs.TokensOverCalls.CalledOn.{not_yet, calls-on}
use Rattle.promises_of_calls.specs.Layers.{Layer}

-- ---- calls that were made, one after the other, each lent any memory, and none of them a reset

pub data GoesOn (L : Layer) (d : L.Device) : L.Device → Type 0 where
  not-called : GoesOn L d d
  called-then : {e e' : L.Device} → GoesOn L d e → (m m' : List ℕ) (c : Call) (x : L.Said) → is_reset c ≡ false → L.Gives e m c x e' m' → GoesOn L d e'

-- they lead where the rules' calls lead
unfoldable pub rules-calls : {L : Layer} {d e : L.Device} → GoesOn L d e → CalledOn (L.state d) (L.state e)
rules-calls not-called = not_yet
rules-calls {L} {d} {e = e'} (called-then {e = e} q m m' c x n k) =
    subst (λ (w : World). CalledOn (L.state d) w.state) (sym (L.gives-world e m c x e' m' k)) (calls-on (rules-calls q) c n m)
