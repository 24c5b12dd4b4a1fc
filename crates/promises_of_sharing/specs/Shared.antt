-- Wish 5, "two programs, one surface", the names: "Import makes the handle a second name for the exported resource; destroying one name leaves the
-- others, and destroying the last frees the room." Of any sound progress, as a submission of any device made and called has it. Assumes nothing.
use Rattle.std.specs.Prelude.{◌≡◌, refl, true, List, ℕ, suc, eqb, length, Err, Ok}
use Rattle.std.proofs.Common.{sym, ap, ◌∙◌, arith, eqb-true}
use Rattle.rules.specs.Judging.{Verdict}
use Rattle.rules.specs.Numbers.{no_name}
use Rattle.rules.specs.Lists.{Found, lookup}
use Rattle.rules.specs.Lists.Found.{none, found}
use Rattle.rules.specs.Names.{token_of, shareable, renamed, lower, lowest_left}
use Rattle.rules.specs.Packets.{Outcome, handle_of, live, without, bound, apply, Progress, passed, target_after, tokens_after, pass}
use Rattle.rules.specs.declared.Entry.{Entry}
use Rattle.rules.specs.declared.Resource.{Resource}
use Rattle.rules.specs.declared.Token.{Token}
use Rattle.rules.specs.declared.Shape.{Shape}
use Rattle.rules.specs.declared.Kind.{Kind}
use Rattle.rules.specs.declared.Kind.TheVariants.{Buffer, Texture}
use Rattle.rules.specs.declared.DestroyResource.{DestroyResource}
use Rattle.rules.specs.declared.ImportSurface.{ImportSurface}
use Rattle.rules.specs.declared.Refusal.{Refusal}
use Rattle.rules.specs.declared.Packet.TheVariants.{Destroy, Import}
use Rattle.rule_laws.specs.Fine.{both_left, both_right}
use Rattle.promises_of_packets.specs.Names.{none-not-found, found-same, in_found, moved}
use Rattle.promises_of_packets.specs.SoundNames.{SoundNames, SoundBut}
use Rattle.promises_of_packets.specs.Effects.{Imported, destroyed, imported, destroy-or, import-or}
use Rattle.promises_of_packets.specs.Held.{SoundProgress}

-- ---- what a name means, and which names are one resource

-- what does not depend on the name
pub record Meaning : Type 0 where
  pub kind : Kind
  pub bytes : ℕ
  pub pitch : ℕ
  pub backing : ℕ
  pub offset : ℕ

abbrev pub meaning_of : Resource → Meaning
meaning_of r = record { kind = r.kind; bytes = r.bytes; pitch = r.pitch; backing = r.backing; offset = r.offset }

abbrev pub meaning_in : Found Resource → Found Meaning
meaning_in none = none
meaning_in (found r) = found (meaning_of r)

-- what a name means; none where it is not live
abbrev pub means : ℕ → List Resource → Found Meaning
means k rs = meaning_in (lookup handle_of k rs)

-- two live names are one resource
pub record OneResource (rs : List Resource) (a b : ℕ) : Type 0 where
  pub first : Resource
  pub second : Resource
  pub here : lookup handle_of a rs ≡ found first
  pub there : lookup handle_of b rs ≡ found second
  pub same : first.lowest ≡ second.lowest

-- every name but k means what it meant, and any two of them are one resource exactly if they were
pub record LeavesOthers (k : ℕ) (before after : List Resource) : Type 0 where
  pub mean-the-same : (n : ℕ) → (n ≡ k → ⊥) → means n after ≡ means n before
  pub still_one : (a b : ℕ) → (a ≡ k → ⊥) → (b ≡ k → ⊥) → OneResource before a b → OneResource after a b
  pub still-two : (a b : ℕ) → (a ≡ k → ⊥) → (b ≡ k → ⊥) → OneResource after a b → OneResource before a b

-- ---- a resource whose lowest name changes

module _ (k low new : ℕ) (rs mid after : List Resource)
    (names : (n : ℕ) → (n ≡ k → ⊥) → lookup handle_of n after ≡ in_found (moved low new) (lookup handle_of n rs))
    (in-mid : (n : ℕ) → (n ≡ k → ⊥) → lookup handle_of n mid ≡ lookup handle_of n rs)
    (all : (n : ℕ) → lookup handle_of n after ≡ in_found (moved low new) (lookup handle_of n mid))
    (s : SoundBut low new mid) where
  pub meaning-moved : (f : Found Resource) → meaning_in (in_found (moved low new) f) ≡ meaning_in f
  meaning-moved none = refl
  meaning-moved (found r) = refl

  pub was : (n : ℕ) → (n ≡ k → ⊥) → (x : Resource) → lookup handle_of n after ≡ found x → (y : Resource) × (lookup handle_of n rs ≡ found y) × (x.lowest ≡ renamed low new y.lowest)
  was n other x e = by_found (lookup handle_of n rs) refl (sym (names n other) ∙ e)
    where
      by_found : (f : Found Resource) → lookup handle_of n rs ≡ f → in_found (moved low new) f ≡ found x
          → (y : Resource) × (lookup handle_of n rs ≡ found y) × (x.lowest ≡ renamed low new y.lowest)
      by_found none h i = absurd (none-not-found x i)
      by_found (found y) h i = (y, h, ap (λ (z : Resource). z.lowest) (sym (found-same i)))

  pub is : (n : ℕ) → (n ≡ k → ⊥) → (y : Resource) → lookup handle_of n rs ≡ found y → lookup handle_of n after ≡ found (moved low new y)
  is n other y e = names n other ∙ ap (in_found (moved low new)) e

-- ---- tokens

-- one that was used since the last reset, one that is spent, one that is bound
abbrev pub Used : ℕ → List Token → Type 0
Used token ts = (t : Token) × (lookup token_of token ts ≡ found t)

abbrev pub Spent : ℕ → List Token → Type 0
Spent token ts = lookup token_of token ts ≡ found (record { name = no_name; token = token })

abbrev pub IsBound : ℕ → List Token → Type 0
IsBound token ts = (t : Token) × (lookup token_of token ts ≡ found t) × (t.name ≡ no_name → ⊥)

-- a live name of the resource that a token is bound to
pub record NameOf (token k : ℕ) (ts : List Token) (rs : List Resource) : Type 0 where
  pub what : Token
  pub used : lookup token_of token ts ≡ found what
  pub bound-one : what.name ≡ no_name → ⊥
  pub resource : Resource
  pub here : lookup handle_of k rs ≡ found resource
  pub same : resource.lowest ≡ what.name

fine-not-broken : (r : Refusal) → ◌≡◌ {A = Verdict} (Err r) (Ok tt) → ⊥
fine-not-broken r e = let z : ◌≡◌ {A = ℕ} 0 1 = cc in omega arith

-- ---- what an accepted destroy and an accepted import come to

module _ (es : List Entry) (h : Progress) where
  pub destroyed-is : (c : DestroyResource) → (pass es h (Destroy c)).verdict ≡ Ok tt
      → (r : Resource) × (live c.handle h.holdings ≡ found r) × (pass es h (Destroy c) ≡ destroyed h c.handle r)
  unfolding pass apply target_after tokens_after
  destroyed-is c =
      destroy-or (λ (o : Outcome). o.verdict ≡ Ok tt → (r : Resource) × (live c.handle h.holdings ≡ found r) × (passed (Destroy c) h o ≡ destroyed h c.handle r))
      h.holdings (λ r e. absurd (fine-not-broken r e)) c (λ r e _. (r, e, rw e))

  pub imported-is : (c : ImportSurface) → (pass es h (Import c)).verdict ≡ Ok tt
      → (r : Resource) × Imported h c.handle c.token r × (pass es h (Import c) ≡ imported h c.handle r)
  unfolding pass apply target_after tokens_after
  imported-is c =
      import-or (λ (o : Outcome). o.verdict ≡ Ok tt → (r : Resource) × Imported h c.handle c.token r × (passed (Import c) h o ≡ imported h c.handle r))
      h.holdings (λ r e. absurd (fine-not-broken r e)) h.tokens c
      (λ r some unused e room _. (r, record { some = some; unused = unused; bound-to = e; room = room }, rw e))

-- ---- "destroying one name leaves the others, and destroying the last frees the room"

pub record Destroyed (k : ℕ) (before after : Progress) : Type 0 where
  -- the name is none any more
  pub gone-now : live k after.holdings ≡ none
  pub others : LeavesOthers k before.holdings.resources after.holdings.resources
  -- "The limit of 64 now counts names": there is room for one more
  pub room : length before.holdings.resources ≡ suc (length after.holdings.resources)
  -- where it was the last name, the tokens of its resource are spent
  pub last_spends : ((n : ℕ) → OneResource before.holdings.resources n k → n ≡ k)
      → (token : ℕ) → NameOf token k before.tokens before.holdings.resources → Spent token after.tokens
  -- and tokens of another resource stay
  pub others-tokens : (token : ℕ) (t : Token) → lookup token_of token before.tokens ≡ found t → (NameOf token k before.tokens before.holdings.resources → ⊥)
      → lookup token_of token after.tokens ≡ found t

module _ (es : List Entry) (h : Progress) (s : SoundProgress es h) where
  abbrev pub rs : List Resource
  rs = h.holdings.resources

  abbrev pub sound-names : SoundNames rs
  sound-names = s.holdings.resources.names

  module _ (k : ℕ) (r : Resource) (e : live k h.holdings ≡ found r) where
    abbrev pub left : List Resource
    left = without k h.holdings

    abbrev pub new : ℕ
    new = lowest_left r.lowest left

-- ---- "Import makes the handle a second name for the exported resource"

pub record SecondName (token k : ℕ) (before after : Progress) : Type 0 where
  -- the resource that the token is bound to
  pub what : Resource
  pub bound-to : bound token before.tokens before.holdings.resources ≡ found what
  pub new-one : live k before.holdings ≡ none
  -- by the new name it has the same kind, bytes, pitch, backing and offset, and it is one resource with it
  pub same : means k after.holdings.resources ≡ found (meaning_of what)
  pub one : OneResource after.holdings.resources k what.handle
  pub others : LeavesOthers k before.holdings.resources after.holdings.resources
  pub room : length after.holdings.resources ≡ suc (length before.holdings.resources)
  -- and no record is made
  pub no_record : after.holdings.records ≡ before.holdings.records

module _ (es : List Entry) (h : Progress) (s : SoundProgress es h) where
  abbrev pub now : List Resource
  now = h.holdings.resources

  abbrev pub its-names : SoundNames now
  its-names = s.holdings.resources.names

  module _ (k token : ℕ) (r : Resource) (i : Imported h k token r) where
    abbrev pub first_name : ℕ
    first_name = lower k r.lowest
    -- ---- "Only textures with one mip and one layer may be exported"

-- which is what `shareable` says of a kind
pub record OneMipOneLayer (k : Kind) : Type 0 where
  pub shape : Shape
  pub texture : k ≡ Texture shape
  pub mips : shape.mips ≡ 1
  pub layers : shape.layers ≡ 1

pub shareable-is-one-mip-one-layer : (k : Kind) → shareable k ≡ true → OneMipOneLayer k
shareable-is-one-mip-one-layer Buffer e = absurd (let z : ◌≡◌ {A = ℕ} 0 1 = cc in omega arith)
shareable-is-one-mip-one-layer (Texture s) e =
    record {
      shape = s;
      texture = refl;
      mips = eqb-true s.mips 1 (both_left (eqb s.mips 1) (eqb s.layers 1) e);
      layers = eqb-true s.layers 1 (both_right (eqb s.mips 1) (eqb s.layers 1) e);
    }
