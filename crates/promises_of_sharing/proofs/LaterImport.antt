-- A later import of a token that is still bound is accepted. Assumes nothing.
use Rattle.std.specs.Prelude.{◌≡◌, ◌⊎◌, ℕ, ◌<◌, length}
use mathlib.Core.List.{List, [], ◌++◌}
use Rattle.std.proofs.Math.Logic.{inl, inr, ⊎_elim}
use Rattle.rules.specs.Numbers.{most}
use Rattle.rules.specs.Lists.Found.{none}
use Rattle.rules.specs.Packets.{live, Progress}
use Rattle.rules.specs.State.{State}
use Rattle.rules.specs.State.Work.{packets}
use Rattle.rules.specs.declared.Entry.{Entry}
use Rattle.rules.specs.declared.Job.{Job}
use Rattle.rules.specs.declared.Resource.{Resource}
use Rattle.rules.specs.declared.Stream.{Stream}
use Rattle.rules.specs.declared.Token.{Token}
use Rattle.rules.specs.declared.ImportSurface.{ImportSurface}
use Rattle.rules.specs.declared.Packet.TheVariants.{Import}
use Rattle.promises_of_packets.specs.SoundNames.{SoundTokens}
use Rattle.promises_of_units.specs.Called.{Called}
use Rattle.promises_of_sharing.specs.Shared.{IsBound}
use Rattle.promises_of_sharing.specs.BoundTokens.{DestroyOfItsLastName}
use Rattle.promises_of_sharing.specs.TokensOverCalls.{CalledOn}
use Rattle.promises_of_sharing.proofs.TokensOverCalls.{what-is-held-is-sound}
use Rattle.promises_of_sharing.specs.PacketsTaken.{packets_since}
use Rattle.promises_of_sharing.specs.TokenLives.{Exports, ImportAccepted, Some, Spends, some_back}
use Rattle.promises_of_sharing.proofs.TokenLives.{an-import-of-a-bound-token, tokens-live-in-work}

-- ---- so an import in a later submission is accepted, and its handle is one more name of that resource

-- a token that was bound, or that a submission answered good has exported since: an import of it, in any submission of that device, is accepted at its
-- packet, where the handle is free and there is room, unless that submission or one answered good has spent the token since
pub a-later-import-is-accepted : (s t : State) (k : Called s) → Called t → (q : CalledOn s t) (j : Job) (r : Stream) (at : ℕ) (es : List Entry) (h : Progress)
    → t.work ≡ packets j r at es h → (c : ImportSurface)
    → IsBound c.token s.belongings.tokens ⊎ Some (Exports c.token) (packets_since s t k q).by_good
    → (c.handle ≡ 0 → ⊥) → live c.handle h.holdings ≡ none → length h.holdings.resources < most
    → ImportAccepted es h c ⊎ Some (Spends c.token) ((packets_since s t k q).in_work ++ (packets_since s t k q).by_good)
a-later-import-is-accepted s t k l q j r at es h e c b some free room =
    ⊎_elim (λ x. inl (an-import-of-a-bound-token es h (what-is-held-is-sound t l j r at es h e) c x some free room)) (λ x. inr x)
    ((tokens-live-in-work s t k q j r at es h e).lives c.token
    (⊎_elim (λ x. inl x) (λ x. inr (some_back (Exports c.token) (packets_since s t k q).in_work (packets_since s t k q).by_good x)) b))
