-- The theorems of specs/SharedTokens.antt, and what they rest on. Assumes nothing.
use Rattle.std.specs.Prelude.{◌≡◌, List, [], ◌∷◌, ◌⊎◌, ℕ, take, Err, Ok}
use Rattle.std.proofs.Math.Path.{refl}
use Rattle.std.proofs.Common.{sym, ap, subst, ◌∙◌, inl, inr, ⊎_elim}
use Rattle.machine.specs.Machine.{pick}
use Rattle.rules.specs.Numbers.{no_name}
use Rattle.rules.specs.Lists.{Found, lookup, pushed}
use Rattle.rules.specs.Lists.Found.{none, found}
use Rattle.rules.specs.Names.{token_of, renamed, under, lower, lowest_left, names_left, tokens_left, names_with, tokens_with, is_new, with_token, without_token}
use Rattle.rules.specs.Stream.{frame_of, packet_of, Frame}
use Rattle.rules.specs.Packets.{handle_of, live, without, bound, Progress, Passed, pass, pass_frame, take_packet}
use Rattle.rules.specs.declared.Entry.{Entry}
use Rattle.rules.specs.declared.Resource.{Resource}
use Rattle.rules.specs.declared.Token.{Token}
use Rattle.rules.specs.declared.Packet.{Packet}
use Rattle.rows.specs.Keys.{same_or_not, lookup-pushed-other}
use Rattle.promises_of_packets.specs.Names.{none-not-found, found-same, in_found, moved, rebound, renamed-own, renamed-other}
use Rattle.promises_of_packets.proofs.Names.{lookup-released, lookup-unreleased}
use Rattle.promises_of_packets.specs.SoundNames.{Bindable, SoundBut, bound-is}
use Rattle.promises_of_packets.proofs.SoundNames.{lowest-apart, others-left, left-sound, new-found, low-some, name-after-destroy, name-destroyed, other-name-after-destroy, token-after-destroy, BoundTo, sound-bound, old-name, with-name-sound, name-after-import, other-name-after-import, token-after-import}
use Rattle.promises_of_packets.specs.Effects.{Fresh, Imported, destroyed, imported}
use Rattle.promises_of_packets.proofs.Effects.{pass-or}
use Rattle.promises_of_packets.specs.Held.{SoundProgress}
use Rattle.promises_of_packets.proofs.Held.{pass-sound}
use Rattle.promises_of_sharing.specs.Targets.{held_after}
use Rattle.promises_of_sharing.specs.Shared.{Spent, IsBound, NameOf}
use Rattle.promises_of_sharing.specs.SharedTokens.{LiveThrough, TokensGoOn, TokensStay, follow-back, follow-forth, held, known-names, live-not-fresh, name-stays, not-both, spent_or_bound, token-is, used-before}

-- ---- tokens, from packet to packet

pub go-on-same : (ts : List Token) → TokensGoOn ts ts
go-on-same ts = record { used = λ token u. u; spent = λ token u. u }

pub go-on-both : (a b c : List Token) → TokensGoOn a b → TokensGoOn b c → TokensGoOn a c
go-on-both a b c p q = record { used = λ token u. q.used token (p.used token u); spent = λ token u. q.spent token (p.spent token u) }

-- the same names and tokens
stay-same : (h after : Progress) → after.holdings.resources ≡ h.holdings.resources → after.tokens ≡ h.tokens → TokensStay h after
stay-same h after e f =
    record {
      goes_on = subst (λ ts. TokensGoOn h.tokens ts) (sym f) (go-on-same h.tokens);
      resources = record {
        keeps = λ token k p q l m. (
          λ n. subst (λ ts. NameOf token k ts after.holdings.resources) (sym f) (subst (λ xs. NameOf token k h.tokens xs) (sym e) n),
          λ n. subst (λ ts. NameOf token k ts h.holdings.resources) f (subst (λ xs. NameOf token k after.tokens xs) e n),
        );
      };
    }

stay-stored : (h after : Progress) (r : Resource) → Fresh h.holdings r → after.holdings.resources ≡ pushed h.holdings.resources r → after.tokens ≡ h.tokens → TokensStay h after
stay-stored h after r f e g =
    record {
      goes_on = subst (λ ts. TokensGoOn h.tokens ts) (sym g) (go-on-same h.tokens);
      resources = record {
        keeps = λ token k p q l m.
            let same : lookup handle_of k after.holdings.resources ≡ live k h.holdings = ap (lookup handle_of k) e ∙ live-not-fresh h r f k l in (
              name-stays token k h.tokens after.tokens h.holdings.resources after.holdings.resources (ap (lookup token_of token) g) same,
              name-stays token k after.tokens h.tokens after.holdings.resources h.holdings.resources (sym (ap (lookup token_of token) g)) (sym same),
            );
      };
    }

-- ---- names and tokens that follow another lowest name

module _ (k low new : ℕ) (rs mid after : List Resource) (ts us : List Token)
    (names : (n : ℕ) → (n ≡ k → ⊥) → lookup handle_of n after ≡ in_found (moved low new) (lookup handle_of n rs))
    (in-mid : (n : ℕ) → (n ≡ k → ⊥) → lookup handle_of n mid ≡ lookup handle_of n rs)
    (all : (n : ℕ) → lookup handle_of n after ≡ in_found (moved low new) (lookup handle_of n mid))
    (tokens : (token : ℕ) → lookup token_of token us ≡ in_found (rebound low new) (lookup token_of token ts))
    (s : SoundBut low new mid) (low-is-some : low ≡ no_name → ⊥)
    (member : (token : ℕ) (t : Token) → lookup token_of token ts ≡ found t → (renamed low new t.name ≡ no_name → ⊥)
    → (n : ℕ) × (x : Resource) × (lookup handle_of n mid ≡ found x) × (x.lowest ≡ t.name)) where
  follow-goes-on : TokensGoOn ts us
  follow-goes-on =
      record {
        used = λ token u. (rebound low new u.0, (token-is k low new rs mid after ts us names in-mid all tokens s low-is-some member) token u.0 u.1);
        spent = λ token u.
            (token-is k low new rs mid after ts us names in-mid all tokens s low-is-some member) token (record { name = no_name; token = token }) u
            ∙ ap (λ n. found (record { name = n; token = token })) (renamed-other low new no_name (λ z. low-is-some (sym z)));
      }

  follow-stays : (h g : Progress) → h.holdings.resources ≡ rs → h.tokens ≡ ts → g.holdings.resources ≡ after → g.tokens ≡ us → (live k h.holdings ≡ none) ⊎ (live k g.holdings ≡ none) → TokensStay h g
  follow-stays h g a b c d away =
      record {
        goes_on = subst (λ x. TokensGoOn x g.tokens) (sym b) (subst (λ x. TokensGoOn ts x) (sym d) follow-goes-on);
        resources = record {
          keeps = λ token n p q l m.
              let other : n ≡ k → ⊥ = λ u. ⊎_elim (λ z. l (ap (λ i. live i h.holdings) u ∙ z)) (λ z. m (ap (λ i. live i g.holdings) u ∙ z)) away in (
                λ x. subst (λ i. NameOf token n i g.holdings.resources) (sym d) (subst (λ i. NameOf token n us i) (sym c)
                    ((follow-forth k low new rs mid after ts us names in-mid all tokens s low-is-some member) token n other (subst (IsBound token) d q) (subst (λ i. NameOf token n i rs) b (subst (λ i. NameOf token n h.tokens i) a x)))),
                λ x. subst (λ i. NameOf token n i h.holdings.resources) (sym b) (subst (λ i. NameOf token n ts i) (sym a)
                    ((follow-back k low new rs mid after ts us names in-mid all tokens s low-is-some member) token n other (subst (λ i. NameOf token n i after) d (subst (λ i. NameOf token n g.tokens i) c x)))),
              );
        };
      }

-- ---- every packet

-- the tokens that are the same for the names that are live on both sides
stay-unchanged : (h g : Progress) → g.holdings.resources ≡ h.holdings.resources → TokensGoOn h.tokens g.tokens
    → ((token : ℕ) → IsBound token h.tokens → IsBound token g.tokens → lookup token_of token g.tokens ≡ lookup token_of token h.tokens) → TokensStay h g
stay-unchanged h g e on same =
    record {
      goes_on = on;
      resources = record {
        keeps = λ token k p q l m.
            let here : lookup handle_of k g.holdings.resources ≡ lookup handle_of k h.holdings.resources = ap (lookup handle_of k) e in (
              name-stays token k h.tokens g.tokens h.holdings.resources g.holdings.resources (same token p q) here,
              name-stays token k g.tokens h.tokens g.holdings.resources h.holdings.resources (sym (same token p q)) (sym here),
            );
      };
    }

-- a token that is new
module _ (ts : List Token) (x : Token) (unused : lookup token_of x.token ts ≡ none) where
  go-on-exported : TokensGoOn ts (pushed ts x)
  go-on-exported =
      record {
        used = λ token u. (u.0, (used-before ts x unused) token u.0 u.1 ∙ u.1);
        spent = λ token u. (used-before ts x unused) token (record { name = no_name; token = token }) u ∙ u;
      }

-- one that is released
module _ (token : ℕ) (ts : List Token) (x : Token) (e : lookup token_of token ts ≡ found x) where
  go-on-released : TokensGoOn ts (without_token token ts)
  go-on-released =
      record {
        used = λ j u.
            ⊎_elim
            (λ h. (record { name = no_name; token = token }, ap (λ i. lookup token_of i (without_token token ts)) h ∙ lookup-released token ts x e))
            (λ h. (u.0, lookup-unreleased token ts x e j h ∙ u.1))
            (same_or_not j token);
        spent = λ j u.
            ⊎_elim
            (λ h. ap (λ i. lookup token_of i (without_token token ts)) h ∙ (lookup-released token ts x e ∙ ap (λ i. found (record { name = no_name; token = i })) (sym h)))
            (λ h. lookup-unreleased token ts x e j h ∙ u)
            (same_or_not j token);
      }

  bound-unreleased : (j : ℕ) → IsBound j (without_token token ts) → lookup token_of j (without_token token ts) ≡ lookup token_of j ts
  bound-unreleased j b =
      ⊎_elim
      (λ h. absurd (b.2 (ap (λ (t : Token). t.name) (found-same (sym b.1 ∙ (ap (λ i. lookup token_of i (without_token token ts)) h ∙ lookup-released token ts x e))))))
      (λ h. lookup-unreleased token ts x e j h)
      (same_or_not j token)

module _ (es : List Entry) (h : Progress) (s : SoundProgress es h) where
  stay-destroyed : (k : ℕ) (r : Resource) → live k h.holdings ≡ found r → TokensStay h (destroyed h k r).held
  stay-destroyed k r e =
      follow-stays k r.lowest (lowest_left r.lowest (without k h.holdings)) (held es h s) (without k h.holdings) (names_left r (without k h.holdings)) h.tokens (tokens_left r (without k h.holdings) h.tokens)
      (other-name-after-destroy (held es h s) s.holdings.resources.once s.holdings.resources.some (known-names es h s) k r e)
      (others-left (held es h s) s.holdings.resources.once s.holdings.resources.some (known-names es h s) k r e)
      (name-after-destroy (held es h s) s.holdings.resources.once s.holdings.resources.some (known-names es h s) k r e)
      (token-after-destroy (held es h s) s.holdings.resources.once s.holdings.resources.some (known-names es h s) k r e h.tokens s.tokens)
      (left-sound (held es h s) s.holdings.resources.once s.holdings.resources.some (known-names es h s) k r e)
      (low-some (held es h s) s.holdings.resources.once s.holdings.resources.some (known-names es h s) k r e)
      member h (destroyed h k r).held refl refl refl refl
      (inr (name-destroyed (held es h s) s.holdings.resources.once s.holdings.resources.some (known-names es h s) k r e))
    where
      member : (token : ℕ) (t : Token) → lookup token_of token h.tokens ≡ found t → (renamed r.lowest (lowest_left r.lowest (without k h.holdings)) t.name ≡ no_name → ⊥)
          → (n : ℕ) × (x : Resource) × (lookup handle_of n (without k h.holdings) ≡ found x) × (x.lowest ≡ t.name)
      member token t f some =
          ⊎_elim
          (λ u.
          let x = new-found (held es h s) s.holdings.resources.once s.holdings.resources.some (known-names es h s) k r e (λ z. some (renamed-own r.lowest _ t.name u ∙ z)) in
          (lowest_left r.lowest (without k h.holdings), x.0, x.1, x.2 ∙ sym u))
          (λ u.
          let b : Bindable t.name (held es h s) = s.tokens.bound-to token t f (λ z. some (renamed-other r.lowest _ t.name u ∙ z)) in
          let apart : t.name ≡ k → ⊥ = λ v. lowest-apart (held es h s) (known-names es h s) k t.name r b.what e b.here (λ w. u (sym b.lowest ∙ w)) (b.lowest ∙ v) in
          (t.name, b.what, others-left (held es h s) s.holdings.resources.once s.holdings.resources.some (known-names es h s) k r e t.name apart ∙ b.here, b.lowest))
          (same_or_not t.name r.lowest)

  stay-imported : (k token : ℕ) (r : Resource) → Imported h k token r → TokensStay h (imported h k r).held
  stay-imported k token r i =
      let b : BoundTo token h.tokens (held es h s) r = sound-bound token h.tokens (held es h s) r s.tokens i.bound-to in
      follow-stays k r.lowest (lower k r.lowest) (held es h s) (pushed (held es h s) (under k r)) (names_with k r (held es h s)) h.tokens (tokens_with k r h.tokens)
      (other-name-after-import (held es h s) (known-names es h s) k i.unused r b.lowest b.shape)
      (λ n other. lookup-pushed-other handle_of n (held es h s) (under k r) (λ u. other (sym u)))
      (name-after-import (held es h s) (known-names es h s) k i.unused r b.lowest b.shape)
      (token-after-import (held es h s) (known-names es h s) k i.unused r b.lowest b.shape s.holdings.resources.some h.tokens s.tokens)
      (with-name-sound (held es h s) (known-names es h s) k i.unused r b.lowest b.shape)
      (low-is-some b.lowest)
      (member (low-is-some b.lowest)) h (imported h k r).held refl refl refl refl (inl i.unused)
    where
      low-is-some : lookup handle_of r.lowest (held es h s) ≡ found r → r.lowest ≡ no_name → ⊥
      low-is-some e z = none-not-found r (sym s.holdings.resources.some ∙ (ap (λ n. lookup handle_of n (held es h s)) (sym z) ∙ e))

      member : (r.lowest ≡ no_name → ⊥) → (token : ℕ) (t : Token) → lookup token_of token h.tokens ≡ found t → (renamed r.lowest (lower k r.lowest) t.name ≡ no_name → ⊥)
          → (n : ℕ) × (x : Resource) × (lookup handle_of n (pushed (held es h s) (under k r)) ≡ found x) × (x.lowest ≡ t.name)
      member low token t f some =
          let b : Bindable t.name (held es h s) =
          s.tokens.bound-to token t f (λ z. some (ap (renamed r.lowest (lower k r.lowest)) z ∙ renamed-other r.lowest (lower k r.lowest) no_name (λ u. low (sym u)))) in
          (t.name, b.what, old-name (held es h s) (known-names es h s) (under k r) i.unused t.name b.what b.here, b.lowest)

  stay-exported : (k token : ℕ) (r : Resource) → TokensStay h (record { holdings = h.holdings; target = h.target; tokens = with_token token r.lowest h.tokens })
  stay-exported k token r = by_found (lookup token_of token h.tokens) refl
    where
      by_found : (f : Found Token) → lookup token_of token h.tokens ≡ f
          → TokensStay h (record { holdings = h.holdings; target = h.target; tokens = pick (is_new f) (pushed h.tokens (record { name = r.lowest; token = token })) h.tokens })
      by_found none e =
          stay-unchanged h _ refl (go-on-exported h.tokens (record { name = r.lowest; token = token }) e)
          (λ j b _. used-before h.tokens (record { name = r.lowest; token = token }) e j b.0 b.1)
      by_found (found t) e = stay-same h _ refl refl

  stay-released : (token : ℕ) (r : Resource) → bound token h.tokens (held es h s) ≡ found r
      → TokensStay h (record { holdings = h.holdings; target = h.target; tokens = without_token token h.tokens })
  stay-released token r e =
      let b = bound-is token h.tokens (held es h s) r e in
      stay-unchanged h _ refl (go-on-released token h.tokens b.0 b.1) (λ j _ c. bound-unreleased token h.tokens b.0 b.1 j c)

  -- whatever the packet
  pub tokens-stay : (p : Packet) → TokensStay h (pass es h p).held
  tokens-stay =
      pass-or (λ (o : Passed). TokensStay h o.held) es h (λ r. stay-same h h refl refl) (stay-same h h refl refl) (λ r f. stay-stored h _ r f refl refl)
      (λ r e f i. stay-stored h _ r f refl refl) stay-destroyed (λ kind r e from size i. stay-same h _ refl refl) (λ k t e. stay-same h _ refl refl)
      (λ t c k. stay-same h _ refl refl) (λ k token r x. stay-exported k token r) stay-imported stay-released

  -- and whatever the bytes left of a stream begin with
  pub tokens-stay-in-a-stream : (b : List ℕ) → TokensStay h (take_packet es h b).held
  unfolding take_packet
  tokens-stay-in-a-stream b = by_frame (frame_of b)
    where
      by_frame : (f : Frame) → TokensStay h (pass_frame es h b f).held
      by_frame (Ok (op, size)) = tokens-stay (packet_of op (take size b))
      by_frame (Err r) = stay-same h h refl refl

-- ---- several packets

live-first : (es : List Entry) (k : ℕ) (h : Progress) (ps : List Packet) → LiveThrough es k h ps → live k h.holdings ≡ none → ⊥
unfolding LiveThrough
live-first es k h [] l = l
live-first es k h (p ∷ ps) l = l.0

tokens-go-on-through : (es : List Entry) (h : Progress) → SoundProgress es h → (ps : List Packet) → TokensGoOn h.tokens (held_after es h ps).tokens
unfolding held_after
tokens-go-on-through es h s [] = go-on-same h.tokens
tokens-go-on-through es h s (p ∷ ps) =
    go-on-both h.tokens (pass es h p).held.tokens (held_after es (pass es h p).held ps).tokens (tokens-stay es h s p).goes_on
    (tokens-go-on-through es (pass es h p).held (pass-sound es h s p) ps)

-- such a name is a name of the token's resource after them exactly if it was before
pub a-token-stays-through-packets : (es : List Entry) (h : Progress) → SoundProgress es h → (ps : List Packet) (token k : ℕ) → LiveThrough es k h ps
    → IsBound token h.tokens → IsBound token (held_after es h ps).tokens
    → (NameOf token k h.tokens h.holdings.resources → NameOf token k (held_after es h ps).tokens (held_after es h ps).holdings.resources)
    × (NameOf token k (held_after es h ps).tokens (held_after es h ps).holdings.resources → NameOf token k h.tokens h.holdings.resources)
unfolding held_after LiveThrough
a-token-stays-through-packets es h s [] token k l a z = (λ n. n, λ n. n)
a-token-stays-through-packets es h s (p ∷ ps) token k l a z =
    let g : Progress = (pass es h p).held in
    let sound : SoundProgress es g = pass-sound es h s p in
    let stays : TokensStay h g = tokens-stay es h s p in
    let b : IsBound token g.tokens =
    ⊎_elim (λ w. absurd (not-both token (held_after es g ps).tokens ((tokens-go-on-through es g sound ps).spent token w) z)) (λ w. w)
    (spent_or_bound token g.tokens (stays.goes_on.used token (a.0, a.1))) in
    let one = stays.resources.keeps token k a b l.0 (live-first es k g ps l.1) in
    let rest = a-token-stays-through-packets es g sound ps token k l.1 b z in
    (λ n. rest.0 (one.0 n), λ n. one.1 (rest.1 n))
