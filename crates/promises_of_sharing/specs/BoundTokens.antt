-- Wish 5, "destroying one name leaves the others, and destroying the last frees the room", of the tokens: a bound token is spent only by its own
-- release, or with the last name of its resource. Whatever the packet, of any sound progress. Assumes nothing.
use Rattle.std.specs.Prelude.{◌≡◌, List, ◌⊎◌, ℕ}
use Rattle.std.proofs.Common.{ap, ◌∙◌}
use Rattle.rules.specs.Numbers.{no_name}
use Rattle.rules.specs.Lists.{lookup}
use Rattle.rules.specs.Lists.Found.{found}
use Rattle.rules.specs.Names.{token_of, renamed, lowest_left}
use Rattle.rules.specs.Packets.{live, without, Progress}
use Rattle.rules.specs.declared.Entry.{Entry}
use Rattle.rules.specs.declared.Resource.{Resource}
use Rattle.rules.specs.declared.Token.{Token}
use Rattle.rules.specs.declared.DestroyResource.{DestroyResource}
use Rattle.rules.specs.declared.Packet.{Packet}
use Rattle.rules.specs.declared.Packet.TheVariants.{Destroy, Release}
use Rattle.promises_of_packets.specs.Names.{in_found, rebound}
use Rattle.promises_of_packets.specs.SoundNames.{SoundNames}
use Rattle.promises_of_packets.specs.Held.{SoundProgress}
use Rattle.promises_of_sharing.specs.Shared.{OneResource, IsBound, NameOf}

-- ---- the two packets that spend a token

-- its own release
abbrev pub ReleaseOf : ℕ → Packet → Type 0
ReleaseOf token p = p ≡ Release (record { token = token })

-- a name of its resource, and no other name of that resource is live
pub record LastNameOf (token k : ℕ) (h : Progress) : Type 0 where
  pub its-name : NameOf token k h.tokens h.holdings.resources
  pub last : (n : ℕ) → OneResource h.holdings.resources n k → n ≡ k

-- a destroy of such a name
pub record DestroyOfItsLastName (token : ℕ) (h : Progress) (p : Packet) : Type 0 where
  pub what : DestroyResource
  pub is : p ≡ Destroy what
  pub last_name : LastNameOf token what.handle h

-- a token after a packet: bound, unless the packet is one of the two
abbrev pub BoundUnless : ℕ → Progress → Packet → List Token → Type 0
BoundUnless token h p after = IsBound token after ⊎ (ReleaseOf token p ⊎ DestroyOfItsLastName token h p)

-- ---- each packet that changes tokens

-- a token that follows its resource to another name
pub bound-follows : (token low new : ℕ) (ts us : List Token) → lookup token_of token us ≡ in_found (rebound low new) (lookup token_of token ts)
    → (b : IsBound token ts) → (renamed low new b.0.name ≡ no_name → ⊥) → IsBound token us
bound-follows token low new ts us e b some = (rebound low new b.0, e ∙ ap (in_found (rebound low new)) b.1, some)

module _ (es : List Entry) (h : Progress) (s : SoundProgress es h) (token : ℕ) (b : IsBound token h.tokens) where
  abbrev pub held : List Resource
  held = h.holdings.resources

  abbrev pub known : SoundNames held
  known = s.holdings.resources.names

  module _ (k : ℕ) (r : Resource) (e : live k h.holdings ≡ found r) where
    abbrev pub left : List Resource
    left = without k h.holdings

    abbrev pub new : ℕ
    new = lowest_left r.lowest left
