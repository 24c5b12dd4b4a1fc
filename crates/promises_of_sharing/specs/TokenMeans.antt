-- Wish 5, "Import makes the handle a second name for the exported resource", from one submission to the next: as long as a token is bound, it is bound to the
-- resource that it was exported with, which has the same kind, bytes, pitch, backing and offset. Over any calls between resets. Assumes nothing.
use Rattle.std.proofs.Math.Path.{◌≡◌, ap}
use Rattle.std.specs.Prelude.{refl, ℕ}
use Rattle.std.proofs.Common.{◌∙◌, inl, inr, ne_eqb}
use mathlib.Core.List.{List, [], ◌∷◌}
use native.Mathlib.Omega.{arith}
use Rattle.rules.specs.Numbers.{no_name}
use Rattle.rules.specs.Lists.{Found}
use Rattle.rules.specs.Lists.Found.{none, found}
use Rattle.rules.specs.Names.{lower, lowest_left}
use Rattle.rules.specs.Packets.{live, without, bound_in, bound, Progress, Belongings, pass}
use Rattle.rules.specs.State.Work.{packets}
use Rattle.rules.specs.declared.Entry.{Entry}
use Rattle.rules.specs.declared.Resource.{Resource}
use Rattle.rules.specs.declared.ExportSurface.{ExportSurface}
use Rattle.rules.specs.declared.ImportSurface.{ImportSurface}
use Rattle.rules.specs.declared.Packet.TheVariants.{Import}
use Rattle.promises_of_packets.specs.Names.{in_found, moved}
use Rattle.promises_of_packets.specs.SoundNames.{SoundNames}
use Rattle.promises_of_packets.specs.Effects.{Imported}
use Rattle.promises_of_packets.specs.Held.{Every, SoundProgress}
use Rattle.promises_of_sharing.specs.Shared.{Meaning, meaning_in, means, IsBound}
use Rattle.promises_of_sharing.specs.PacketsTaken.{Taken}
use Rattle.promises_of_sharing.specs.TokenLives.{Some, Exports, TokensLive}

-- ---- what a token means

-- the kind, bytes, pitch, backing and offset of the resource that a token is bound to; none where it is bound to none
abbrev pub token_means : ℕ → Belongings → Found Meaning
token_means token b = meaning_in (bound token b.tokens b.resources)

-- if this packet exports the token: what the exported handle meant to it
abbrev pub MeantAtExport : Found Meaning → ℕ → Taken → Type 0
MeantAtExport m token x = (e : Exports token x) → m ≡ means e.0 x.before.holdings.resources

-- over some packets, the last one first
pub record TokensMean (xs : List Taken) (before after : Belongings) : Type 0 where
  -- a token that is bound before and after them means the same
  pub bound-before : (token : ℕ) → IsBound token before.tokens → IsBound token after.tokens → token_means token after ≡ token_means token before
  -- and one that one of them exports, if it is bound after them, means what the exported handle meant then
  pub exported-since : (token : ℕ) → IsBound token after.tokens → Every (MeantAtExport (token_means token after) token) xs
  pub live_on : TokensLive xs before.tokens after.tokens

-- ---- of no packets, and of one after the other

module _ {A : Type 0} (P : A → Type 0) (Q : (x : A) → P x → Type 0) where
  -- what is to be shown of those that have P may use that there is one
  pub every-if-some : (xs : List A) → (Some P xs → Every (λ (x : A). (p : P x) → Q x p) xs) → Every (λ (x : A). (p : P x) → Q x p) xs
  unfolding Some Every
  every-if-some [] f = omega arith
  every-if-some (x ∷ xs) f = (λ p. (f (inl p)).0 p, every-if-some xs (λ h. (f (inr h)).1))

-- ---- every packet

-- a bound token is found by its name
pub found-by-name : (token : ℕ) (b : Belongings) (i : IsBound token b.tokens) → token_means token b ≡ means i.0.name b.resources
unfolding bound
found-by-name token b i = ap (λ f. meaning_in (bound_in f b.resources)) i.1 ∙ rw (ne_eqb i.0.name no_name i.2)

pub meaning-moved : (low new : ℕ) (f : Found Resource) → meaning_in (in_found (moved low new) f) ≡ meaning_in f
meaning-moved low new none = refl
meaning-moved low new (found r) = refl

module _ (es : List Entry) (h : Progress) (s : SoundProgress es h) (token : ℕ) (b : IsBound token h.tokens) where
  abbrev pub rs : List Resource
  rs = h.holdings.resources

  abbrev pub names : SoundNames rs
  names = s.holdings.resources.names

  abbrev pub name : ℕ
  name = b.0.name

  module _ (k : ℕ) (r : Resource) (e : live k h.holdings ≡ found r) where
    abbrev pub left : List Resource
    left = without k h.holdings

    abbrev pub new : ℕ
    new = lowest_left r.lowest left

  module _ (k other : ℕ) (r : Resource) (i : Imported h k other r) where
    abbrev pub then : ℕ
    then = lower k r.lowest

-- the packet that exports it: the token has the lowest name of the exported handle's resource
module _ (es : List Entry) (h : Progress) (s : SoundProgress es h) (c : ExportSurface) where
  abbrev pub held_now : List Resource
  held_now = h.holdings.resources

  abbrev pub AsTheHandle : Belongings → Type 0
  AsTheHandle after = IsBound c.token after.tokens → token_means c.token after ≡ means c.handle held_now

-- ---- so the handle of an accepted import is a second name of the resource that was exported

pub record NamesTheExported (token handle : ℕ) (xs : List Taken) (before : Belongings) (after : List Resource) : Type 0 where
  -- of the one that the token was bound to before
  pub bound-before : IsBound token before.tokens → means handle after ≡ token_means token before
  -- of the one that the exported handle meant when the token was exported
  pub exported-since : Every (MeantAtExport (means handle after) token) xs
