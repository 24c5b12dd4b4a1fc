-- Wish 5, the tokens from packet to packet: whatever the packet, one that was used stays used, one that is spent stays spent, and one that is bound
-- stays with its resource. Of any sound progress. Assumes nothing.
use Rattle.std.specs.Prelude.{◌≡◌, List, [], ◌∷◌, ◌⊎◌, ℕ}
use Rattle.std.proofs.Math.Path.{refl}
use Rattle.std.proofs.Common.{sym, ap, ◌∙◌, inl, inr, ⊎_elim}
use Rattle.rules.specs.Numbers.{no_name}
use Rattle.rules.specs.Lists.{Found, lookup, pushed}
use Rattle.rules.specs.Lists.Found.{none, found}
use Rattle.rules.specs.Names.{token_of, renamed}
use Rattle.rules.specs.Packets.{handle_of, live, Progress, pass}
use Rattle.rules.specs.declared.Entry.{Entry}
use Rattle.rules.specs.declared.Resource.{Resource}
use Rattle.rules.specs.declared.Token.{Token}
use Rattle.rules.specs.declared.Packet.{Packet}
use Rattle.rows.specs.Keys.{same_or_not, lookup-pushed-other}
use Rattle.promises_of_packets.specs.Names.{none-not-found, found-same, in_found, moved, rebound, renamed-other, found-key}
use Rattle.promises_of_packets.specs.SoundNames.{SoundNames, SoundBut, apart-stays}
use Rattle.promises_of_packets.specs.Effects.{Fresh}
use Rattle.promises_of_packets.specs.Held.{SoundProgress}
use Rattle.promises_of_sharing.specs.Shared.{was, Used, Spent, IsBound, NameOf}

-- ---- tokens, from packet to packet

-- "a token ever bound to another resource or one released": one that was used stays used, and one that is spent stays spent
pub record TokensGoOn (before after : List Token) : Type 0 where
  pub used : (token : ℕ) → Used token before → Used token after
  pub spent : (token : ℕ) → Spent token before → Spent token after

-- a token that is bound before and after stays with its resource: each name that is live before and after is a name of it after exactly if it was
-- before. A packet takes away at most one name, and gives at most one.
pub record KeepsResources (before after : Progress) : Type 0 where
  pub keeps : (token k : ℕ) → IsBound token before.tokens → IsBound token after.tokens
      → (live k before.holdings ≡ none → ⊥) → (live k after.holdings ≡ none → ⊥)
      → (NameOf token k before.tokens before.holdings.resources → NameOf token k after.tokens after.holdings.resources)
      × (NameOf token k after.tokens after.holdings.resources → NameOf token k before.tokens before.holdings.resources)

pub record TokensStay (before after : Progress) : Type 0 where
  pub goes_on : TokensGoOn before.tokens after.tokens
  pub resources : KeepsResources before after

-- of a name that means the same resource before and after, and a token that is the same
module _ (token k : ℕ) (ts us : List Token) (rs xs : List Resource) (e : lookup token_of token us ≡ lookup token_of token ts) (f : lookup handle_of k xs ≡ lookup handle_of k rs) where
  pub name-stays : NameOf token k ts rs → NameOf token k us xs
  name-stays n = record { what = n.what; used = e ∙ n.used; bound-one = n.bound-one; resource = n.resource; here = f ∙ n.here; same = n.same }

pub live-not-fresh : (h : Progress) (r : Resource) → Fresh h.holdings r → (k : ℕ) → (live k h.holdings ≡ none → ⊥) → lookup handle_of k (pushed h.holdings.resources r) ≡ live k h.holdings
live-not-fresh h r f k l = lookup-pushed-other handle_of k h.holdings.resources r (λ u. l (ap (λ n. live n h.holdings) (sym u) ∙ f.unused))

-- ---- names and tokens that follow another lowest name

module _ (k low new : ℕ) (rs mid after : List Resource) (ts us : List Token)
    (names : (n : ℕ) → (n ≡ k → ⊥) → lookup handle_of n after ≡ in_found (moved low new) (lookup handle_of n rs))
    (in-mid : (n : ℕ) → (n ≡ k → ⊥) → lookup handle_of n mid ≡ lookup handle_of n rs)
    (all : (n : ℕ) → lookup handle_of n after ≡ in_found (moved low new) (lookup handle_of n mid))
    (tokens : (token : ℕ) → lookup token_of token us ≡ in_found (rebound low new) (lookup token_of token ts))
    (s : SoundBut low new mid) (low-is-some : low ≡ no_name → ⊥)
    (member : (token : ℕ) (t : Token) → lookup token_of token ts ≡ found t → (renamed low new t.name ≡ no_name → ⊥)
    → (n : ℕ) × (x : Resource) × (lookup handle_of n mid ≡ found x) × (x.lowest ≡ t.name)) where
  pub token-is : (token : ℕ) (t : Token) → lookup token_of token ts ≡ found t → lookup token_of token us ≡ found (rebound low new t)
  token-is token t e = tokens token ∙ ap (in_found (rebound low new)) e

  token-was : (token : ℕ) (t' : Token) → lookup token_of token us ≡ found t' → (t : Token) × (lookup token_of token ts ≡ found t) × (t'.name ≡ renamed low new t.name)
  token-was token t' e = by_found (lookup token_of token ts) refl (sym (tokens token) ∙ e)
    where
      by_found : (f : Found Token) → lookup token_of token ts ≡ f → in_found (rebound low new) f ≡ found t'
          → (t : Token) × (lookup token_of token ts ≡ found t) × (t'.name ≡ renamed low new t.name)
      by_found none h i = absurd (none-not-found t' i)
      by_found (found t) h i = (t, h, ap (λ (z : Token). z.name) (sym (found-same i)))

  pub follow-forth : (token n : ℕ) → (n ≡ k → ⊥) → IsBound token us → NameOf token n ts rs → NameOf token n us after
  follow-forth token n other b m =
      let t : lookup token_of token us ≡ found (rebound low new m.what) = token-is token m.what m.used in
      record {
        what = rebound low new m.what;
        used = t;
        bound-one = λ z. b.2 (ap (λ (x : Token). x.name) (found-same (sym b.1 ∙ t)) ∙ z);
        resource = moved low new m.resource;
        here = names n other ∙ ap (in_found (moved low new)) m.here;
        same = ap (renamed low new) m.same;
      }

  pub follow-back : (token n : ℕ) → (n ≡ k → ⊥) → NameOf token n us after → NameOf token n ts rs
  follow-back token n other m =
      let t = token-was token m.what m.used in
      let y = was k low new rs mid after names in-mid all s n other m.resource m.here in
      let x = member token t.0 t.1 (λ z. m.bound-one (t.2 ∙ z)) in
      let same : y.0.lowest ≡ x.1.lowest =
      apart-stays low new mid after all s n x.0 y.0 x.1 (in-mid n other ∙ y.1) x.2
      (sym y.2 ∙ (m.same ∙ (t.2 ∙ ap (renamed low new) (sym x.3)))) in
      record {
        what = t.0;
        used = t.1;
        bound-one = λ z. m.bound-one (t.2 ∙ (ap (renamed low new) z ∙ renamed-other low new no_name (λ u. low-is-some (sym u))));
        resource = y.0;
        here = y.1;
        same = same ∙ x.3;
      }

-- ---- every packet

-- a token that is new
module _ (ts : List Token) (x : Token) (unused : lookup token_of x.token ts ≡ none) where
  pub used-before : (token : ℕ) (t : Token) → lookup token_of token ts ≡ found t → lookup token_of token (pushed ts x) ≡ lookup token_of token ts
  used-before token t e = lookup-pushed-other token_of token ts x (λ u. none-not-found t (sym unused ∙ (ap (λ i. lookup token_of i ts) u ∙ e)))

module _ (es : List Entry) (h : Progress) (s : SoundProgress es h) where
  abbrev pub held : List Resource
  held = h.holdings.resources

  abbrev pub known-names : SoundNames held
  known-names = s.holdings.resources.names

-- ---- several packets

-- a token that was used is spent or bound
pub spent_or_bound : (token : ℕ) (ts : List Token) → Used token ts → Spent token ts ⊎ IsBound token ts
spent_or_bound token ts u =
    ⊎_elim
    (λ z. inl (u.1 ∙ (ap (λ n. found (record { name = n; token = u.0.token })) z ∙ ap (λ n. found (record { name = no_name; token = n })) (found-key token_of token ts u.0 u.1))))
    (λ z. inr (u.0, u.1, z))
    (same_or_not u.0.name no_name)

pub not-both : (token : ℕ) (ts : List Token) → Spent token ts → IsBound token ts → ⊥
not-both token ts s b = b.2 (ap (λ (t : Token). t.name) (found-same (sym b.1 ∙ s)))

-- a name that is live before the first, and after each
unfoldable pub LiveThrough : List Entry → ℕ → Progress → List Packet → Type 0
LiveThrough es k h [] = live k h.holdings ≡ none → ⊥
LiveThrough es k h (p ∷ ps) = (live k h.holdings ≡ none → ⊥) × LiveThrough es k (pass es h p).held ps
