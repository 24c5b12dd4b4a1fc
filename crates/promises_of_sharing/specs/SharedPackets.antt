-- Wish 5, what an export, an import and a release come to, rule by rule and in their order. Of any progress. Assumes nothing.
use Rattle.std.specs.Prelude.{◌≡◌, refl, Bool, true, false, ◌||◌, List, ℕ, ◌≤◌, ◌<◌, eqb, length, Err, Ok}
use borrow.Author.Tests.{eq-eqb, ne_eqb, le-leb, lt-leb}
use Rattle.rules.specs.Numbers.{most, most_tokens}
use Rattle.rules.specs.Lists.{lookup, pushed}
use Rattle.rules.specs.Lists.Found.{none, found}
use Rattle.rules.specs.Names.{token_of, shareable, without_token}
use Rattle.rules.specs.Packets.{live, bound, on_import_packet, on_release_packet, apply, Progress, Passed, target_after, tokens_after, pass}
use Rattle.rules.specs.declared.Refusal.{Refusal}
use Rattle.rules.specs.declared.Entry.{Entry}
use Rattle.rules.specs.declared.Resource.{Resource}
use Rattle.rules.specs.declared.Token.{Token}
use Rattle.rules.specs.declared.ExportSurface.{ExportSurface}
use Rattle.rules.specs.declared.ImportSurface.{ImportSurface}
use Rattle.rules.specs.declared.ReleaseToken.{ReleaseToken}
use Rattle.rules.specs.declared.Packet.TheVariants.{Export, Import, Release}
use Rattle.rules.specs.declared.Refusal.TheVariants.{BadHandle, TooMany, BadShape, BadToken, UnboundToken}
use Rattle.promises_of_packets.specs.Effects.{imported}
use Rattle.promises_of_sharing.specs.Shared.{Spent}

-- ---- "The handle check (18, create's rule for import) comes first, then shape, token, room."

-- what is held, without a token
abbrev pub released_from : Progress → ℕ → Passed
released_from h token = record { verdict = Ok tt; held = record { holdings = h.holdings; target = h.target; tokens = without_token token h.tokens } }

pub or-true : (b : Bool) → b || true ≡ true
or-true true = refl
or-true false = refl

module _ (es : List Entry) (h : Progress) where
  abbrev pub refused_with : Refusal → Passed
  refused_with n = record { verdict = Err n; held = h }

  -- "Only textures with one mip and one layer may be exported, else 20. Export gives 28 for token 0, a token ever bound to another resource or
  -- one released; the same token on the same resource again changes nothing."
  pub record ExportPacket (c : ExportSurface) : Type 0 where
    pub not_live : live c.handle h.holdings ≡ none → pass es h (Export c) ≡ refused_with BadHandle
    pub wrong-shape : (r : Resource) → live c.handle h.holdings ≡ found r → shareable r.kind ≡ false → pass es h (Export c) ≡ refused_with BadShape
    pub token-0 : (r : Resource) → live c.handle h.holdings ≡ found r → shareable r.kind ≡ true → c.token ≡ 0 → pass es h (Export c) ≡ refused_with BadToken
    -- of another resource, or spent
    pub of-another-one : (r : Resource) → live c.handle h.holdings ≡ found r → shareable r.kind ≡ true
        → (t : Token) → lookup token_of c.token h.tokens ≡ found t → (t.name ≡ r.lowest → ⊥) → pass es h (Export c) ≡ refused_with BadToken
    pub again : (r : Resource) → live c.handle h.holdings ≡ found r → shareable r.kind ≡ true → (c.token ≡ 0 → ⊥)
        → (t : Token) → lookup token_of c.token h.tokens ≡ found t → t.name ≡ r.lowest → pass es h (Export c) ≡ record { verdict = Ok tt; held = h }
    -- "At most 256 tokens .., then 19"
    pub no_room : (r : Resource) → live c.handle h.holdings ≡ found r → shareable r.kind ≡ true → (c.token ≡ 0 → ⊥)
        → lookup token_of c.token h.tokens ≡ none → most_tokens ≤ length h.tokens → pass es h (Export c) ≡ refused_with TooMany
    pub new-token : (r : Resource) → live c.handle h.holdings ≡ found r → shareable r.kind ≡ true → (c.token ≡ 0 → ⊥)
        → lookup token_of c.token h.tokens ≡ none → length h.tokens < most_tokens
        → pass es h (Export c) ≡ record { verdict = Ok tt; held = record { holdings = h.holdings; target = h.target; tokens = pushed h.tokens (record { name = r.lowest; token = c.token }) } }

  -- "Import and release give 29 for a token not bound to a live resource": exactly then, once the handle is good
  pub record ImportPacket (c : ImportSurface) : Type 0 where
    pub handle-0 : c.handle ≡ 0 → pass es h (Import c) ≡ refused_with BadHandle
    pub handle-live : (r : Resource) → live c.handle h.holdings ≡ found r → pass es h (Import c) ≡ refused_with BadHandle
    pub not-bound : (c.handle ≡ 0 → ⊥) → live c.handle h.holdings ≡ none → bound c.token h.tokens h.holdings.resources ≡ none
        → pass es h (Import c) ≡ refused_with UnboundToken
    pub no_room : (c.handle ≡ 0 → ⊥) → live c.handle h.holdings ≡ none → (r : Resource) → bound c.token h.tokens h.holdings.resources ≡ found r
        → most ≤ length h.holdings.resources → pass es h (Import c) ≡ refused_with TooMany
    pub second_name : (c.handle ≡ 0 → ⊥) → live c.handle h.holdings ≡ none → (r : Resource) → bound c.token h.tokens h.holdings.resources ≡ found r
        → length h.holdings.resources < most → pass es h (Import c) ≡ imported h c.handle r

  pub when-an-import-is-accepted : (c : ImportSurface) → ImportPacket c
  unfolding pass apply on_import_packet target_after tokens_after
  when-an-import-is-accepted c =
      record {
        handle-0 = λ z. rw (eq-eqb c.handle 0 z);
        handle-live = λ r e. rw (e, or-true (eqb c.handle 0));
        not-bound = λ z e b. rw (ne_eqb c.handle 0 z, e, b);
        no_room = λ z e r b l. rw (ne_eqb c.handle 0 z, e, b, le-leb most (length h.holdings.resources) l);
        second_name = λ z e r b l. rw (ne_eqb c.handle 0 z, e, b, lt-leb most (length h.holdings.resources) l);
      }

  -- a release spends that token alone, and names stay
  pub record ReleasePacket (c : ReleaseToken) : Type 0 where
    pub not-bound : bound c.token h.tokens h.holdings.resources ≡ none → pass es h (Release c) ≡ refused_with UnboundToken
    pub released : (r : Resource) → bound c.token h.tokens h.holdings.resources ≡ found r → pass es h (Release c) ≡ released_from h c.token
    pub spends_it : (r : Resource) → bound c.token h.tokens h.holdings.resources ≡ found r → Spent c.token (pass es h (Release c)).held.tokens
    pub leaves-others : (r : Resource) → bound c.token h.tokens h.holdings.resources ≡ found r → (token : ℕ) → (token ≡ c.token → ⊥)
        → lookup token_of token (pass es h (Release c)).held.tokens ≡ lookup token_of token h.tokens

  pub release-is : (c : ReleaseToken) (r : Resource) → bound c.token h.tokens h.holdings.resources ≡ found r → pass es h (Release c) ≡ released_from h c.token
  unfolding pass apply on_release_packet target_after tokens_after
  release-is c r e = rw e

  pub release-not : (c : ReleaseToken) → bound c.token h.tokens h.holdings.resources ≡ none → pass es h (Release c) ≡ refused_with UnboundToken
  unfolding pass apply on_release_packet target_after tokens_after
  release-not c e = rw e
