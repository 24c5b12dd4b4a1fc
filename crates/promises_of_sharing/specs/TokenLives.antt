-- Wish 5, "two programs, one surface": a token lives from one submission to the next. One that is bound, or exported since, is bound over any calls
-- between resets, exactly unless a submission answered good has released it or destroyed the last name of its resource since. And import's own test finds
-- it, so an import of it in a later submission, with a free handle and room, is accepted. Assumes nothing.
use Rattle.std.specs.Prelude.{◌≡◌, refl, ◌⊎◌, ℕ, ◌<◌, length, Err, Ok}
use Rattle.std.proofs.Common.{sym, ◌∙◌, arith, ne_eqb}
use Rattle.std.proofs.Math.Path.{ap}
use mathlib.Core.List.{List, [], ◌∷◌, ◌++◌}
use Rattle.std.proofs.Math.Logic.{inl, inr, ⊎_elim}
use Rattle.rules.specs.Judging.{Verdict}
use Rattle.rules.specs.Numbers.{no_name}
use Rattle.rules.specs.Lists.{Found, lookup}
use Rattle.rules.specs.Lists.Found.{none, found}
use Rattle.rules.specs.Names.{token_of, renamed}
use Rattle.rules.specs.Packets.{live, bound_in, bound, Progress, Belongings, pass}
use Rattle.rules.specs.Stream.{left}
use Rattle.rules.specs.State.{State, World, working}
use Rattle.rules.specs.Steps.{packets_at, next_place, step}
use Rattle.rules.specs.declared.Entry.{Entry}
use Rattle.rules.specs.declared.Job.{Job}
use Rattle.rules.specs.declared.Resource.{Resource}
use Rattle.rules.specs.declared.Stream.{Stream}
use Rattle.rules.specs.declared.Token.{Token}
use Rattle.rules.specs.declared.ImportSurface.{ImportSurface}
use Rattle.rules.specs.declared.Refusal.{Refusal}
use Rattle.rules.specs.declared.Packet.{Packet}
use Rattle.rules.specs.declared.Packet.TheVariants.{Export, Import}
use Rattle.promises_of_packets.specs.Names.{none-not-found, found-same, in_found, rebound, renamed-other}
use Rattle.promises_of_packets.specs.SoundNames.{SoundTokens, Bindable, bound-is}
use Rattle.promises_of_packets.specs.Held.{SoundProgress}
use Rattle.promises_of_sharing.specs.Shared.{Spent, IsBound, SecondName}
use Rattle.promises_of_sharing.specs.SharedTokens.{TokensGoOn}
use Rattle.promises_of_sharing.specs.BoundTokens.{ReleaseOf, DestroyOfItsLastName}
use Rattle.promises_of_sharing.specs.PacketsTaken.{Taken}

-- ---- one of a list

module _ {A : Type 0} (P : A → Type 0) where
  unfoldable pub Some : List A → Type 0
  Some [] = ⊥
  Some (x ∷ xs) = P x ⊎ Some xs

  pub some-front : (xs ys : List A) → Some xs → Some (xs ++ ys)
  unfolding Some
  some-front [] ys h = absurd h
  some-front (x ∷ xs) ys (inl h) = inl h
  some-front (x ∷ xs) ys (inr h) = inr (some-front xs ys h)

  pub some_back : (xs ys : List A) → Some ys → Some (xs ++ ys)
  unfolding Some
  some_back [] ys h = h
  some_back (x ∷ xs) ys h = inr (some_back xs ys h)

  pub some-either : (xs ys : List A) → Some (xs ++ ys) → Some xs ⊎ Some ys
  unfolding Some
  some-either [] ys h = inr h
  some-either (x ∷ xs) ys (inl h) = inl (inl h)
  some-either (x ∷ xs) ys (inr h) = ⊎_elim (λ k. inl (inr k)) (λ k. inr k) (some-either xs ys h)

-- ---- what becomes of a token

-- its release, or a destroy of the last name of its resource
abbrev pub Spends : ℕ → Taken → Type 0
Spends token x = ReleaseOf token x.packet ⊎ DestroyOfItsLastName token x.before x.packet

-- its export
abbrev pub Exports : ℕ → Taken → Type 0
Exports token x = (handle : ℕ) × (x.packet ≡ Export (record { handle = handle; token = token }))

-- over some packets, the last one first
pub record TokensLive (xs : List Taken) (before after : List Token) : Type 0 where
  -- one that was bound before them, or that one of them exports, is bound after them, unless one of them spends it
  pub lives : (token : ℕ) → IsBound token before ⊎ Some (Exports token) xs → IsBound token after ⊎ Some (Spends token) xs
  -- and one that one of them spends is spent after them
  pub spent : (token : ℕ) → Some (Spends token) xs → Spent token after
  -- and one that is bound after them was bound before them, or one of them exports it
  pub came : (token : ℕ) → IsBound token after → IsBound token before ⊎ Some (Exports token) xs
  pub goes_on : TokensGoOn before after

-- ---- each packet that is accepted

pub fine-not-broken : (r : Refusal) → ◌≡◌ {A = Verdict} (Err r) (Ok tt) → ⊥
fine-not-broken r e = let z : ◌≡◌ {A = ℕ} 0 1 = cc in omega arith

-- a token that followed its resource to another name was bound before
pub bound-followed : (token low new : ℕ) (ts us : List Token) → (low ≡ no_name → ⊥) → lookup token_of token us ≡ in_found (rebound low new) (lookup token_of token ts)
    → IsBound token us → IsBound token ts
bound-followed token low new ts us some e b = by_found (lookup token_of token ts) refl (sym e ∙ b.1)
  where
    by_found : (f : Found Token) → lookup token_of token ts ≡ f → in_found (rebound low new) f ≡ found b.0 → IsBound token ts
    by_found none h i = absurd (none-not-found b.0 i)
    by_found (found t) h i =
        (t, h, λ z. b.2 (ap (λ (x : Token). x.name) (sym (found-same i)) ∙ (ap (renamed low new) z ∙ renamed-other low new no_name (λ u. some (sym u)))))

module _ (es : List Entry) (h : Progress) (s : SoundProgress es h) where
  -- ---- where a token that is bound after a packet came from

  abbrev pub held_now : List Resource
  held_now = h.holdings.resources

  module _ (token : ℕ) where
    abbrev pub Came : Packet → List Token → Type 0
    Came p after = IsBound token after → IsBound token h.tokens ⊎ Exports token (record { before = h; packet = p })

-- ---- over any calls between resets

abbrev pub LiveOver : List Taken → Belongings → Belongings → Type 0
LiveOver xs before after = TokensLive xs before.tokens after.tokens

-- ---- "a token bound to a live resource": what the promises say and what import's own test finds are one

module _ (token : ℕ) (ts : List Token) (rs : List Resource) (s : SoundTokens rs ts) where
  pub bound-is-found : IsBound token ts → (r : Resource) × (bound token ts rs ≡ found r)
  unfolding bound
  bound-is-found b =
      let n : Bindable b.0.name rs = s.bound-to token b.0 b.1 b.2 in
      (n.what, ap (λ f. bound_in f rs) b.1 ∙ rw (ne_eqb b.0.name no_name b.2) n.here)

  pub found-is-bound : (r : Resource) → bound token ts rs ≡ found r → IsBound token ts
  found-is-bound r e = let b = bound-is token ts rs r e in (b.0, b.1, b.2)

-- of any device made and called
pub record BoundIsFound (token : ℕ) (s : State) : Type 0 where
  pub found-if-bound : IsBound token s.belongings.tokens → (r : Resource) × (bound token s.belongings.tokens s.belongings.resources ≡ found r)
  pub bound-if-found : (r : Resource) → bound token s.belongings.tokens s.belongings.resources ≡ found r → IsBound token s.belongings.tokens

-- ---- so an import in a later submission is accepted, and its handle is one more name of that resource

pub record ImportAccepted (es : List Entry) (h : Progress) (c : ImportSurface) : Type 0 where
  pub accepted : (pass es h (Import c)).verdict ≡ Ok tt
  pub second_name : SecondName c.token c.handle h (pass es h (Import c)).held

-- that packet's unit works on, and the names go on with one more
pub record WorksOn (w : World) (j : Job) (r : Stream) (at : ℕ) (es : List Entry) (h : Progress) (c : ImportSurface) : Type 0 where
  pub next : step w ≡ working (packets_at j r (next_place at (left w.mem r at)) es (pass es h (Import c)).held) w
  pub second_name : SecondName c.token c.handle h (pass es h (Import c)).held
