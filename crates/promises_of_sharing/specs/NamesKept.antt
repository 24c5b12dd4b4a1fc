-- Wish 5, the names of a token's resource from packet to packet: a token that is bound before and after a packet keeps each of them and gets no other,
-- but for the one name that an import gives and a destroy takes away. Of any sound progress. Assumes nothing.
use Rattle.std.specs.Prelude.{◌≡◌, ℕ, take, Err, Ok}
use Rattle.std.proofs.Math.Path.{refl}
use mathlib.Core.List.{List, [], ◌∷◌}
use Rattle.rules.specs.Lists.{Found}
use Rattle.rules.specs.Lists.Found.{none, found}
use Rattle.rules.specs.Stream.{packet_of, Frame}
use Rattle.rules.specs.Packets.{Outcome, live, is_live, Progress, Belongings, left_by, passed}
use Rattle.rules.specs.declared.Entry.{Entry}
use Rattle.rules.specs.declared.Resource.{Resource}
use Rattle.rules.specs.declared.Packet.{Packet}
use Rattle.rules.specs.declared.Packet.TheVariants.{Buffer, Texture, Destroy, Dirty, Copy, Target, Viewport, Scissor, Clear, Export, Import, Release, NotANumber, Unknown}
use Rattle.promises_of_packets.specs.Names.{in_found, moved}
use Rattle.promises_of_packets.specs.Held.{Every, SoundProgress}
use Rattle.promises_of_sharing.specs.Shared.{IsBound, NameOf}

-- ---- the names that count

-- the name that a packet imports or destroys. A create does not count: its name was not live, and is that of a new resource.
abbrev pub imported_or_destroyed : Packet → List ℕ
imported_or_destroyed (Buffer c) = []
imported_or_destroyed (Texture c) = []
imported_or_destroyed (Destroy c) = c.handle ∷ []
imported_or_destroyed (Dirty c) = []
imported_or_destroyed (Copy c) = []
imported_or_destroyed (Target c) = []
imported_or_destroyed (Viewport c) = []
imported_or_destroyed (Scissor c) = []
imported_or_destroyed (Clear c) = []
imported_or_destroyed (Export c) = []
imported_or_destroyed (Import c) = c.handle ∷ []
imported_or_destroyed (Release c) = []
imported_or_destroyed NotANumber = []
imported_or_destroyed Unknown = []

-- the same of the packet that some bytes begin with
abbrev pub in_frame : List ℕ → Frame → List ℕ
in_frame b (Ok (op, size)) = imported_or_destroyed (packet_of op (take size b))
in_frame b (Err r) = []

-- a name that is none of these
abbrev pub NotAmong : ℕ → List ℕ → Type 0
NotAmong k names = Every (λ n. n ≡ k → ⊥) names

-- a token that is bound before and after: each name but these is a name of its resource after exactly if it was before
pub record KeepsNamesBut (names : List ℕ) (before after : Belongings) : Type 0 where
  pub keeps : (token k : ℕ) → NotAmong k names → IsBound token before.tokens → IsBound token after.tokens
      → (NameOf token k before.tokens before.resources → NameOf token k after.tokens after.resources)
      × (NameOf token k after.tokens after.resources → NameOf token k before.tokens before.resources)

-- ---- every packet

pub live_moved : (low new : ℕ) (f : Found Resource) → is_live (in_found (moved low new) f) ≡ is_live f
live_moved low new none = refl
live_moved low new (found r) = refl

module _ (es : List Entry) (h : Progress) (s : SoundProgress es h) where
  abbrev pub rs : List Resource
  rs = h.holdings.resources

  -- by what its rules come to
  abbrev pub Keeps : Packet → Outcome → Type 0
  Keeps p o = KeepsNamesBut (imported_or_destroyed p) (left_by h) (left_by (passed p h o).held)

  -- a name is live after exactly if it was before
  abbrev pub SameLive : ℕ → Outcome → Type 0
  SameLive k o = is_live (live k o.held) ≡ is_live (live k h.holdings)
