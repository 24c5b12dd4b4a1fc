-- The theorems of specs/TokenMeans.antt, and what they rest on. Assumes nothing.
use Rattle.std.proofs.Math.Path.{◌≡◌, ap}
use Rattle.std.specs.Prelude.{refl, false, ◌⊎◌, ℕ, eqb, Ok}
use Rattle.std.proofs.Common.{sym, subst, ◌∙◌, inl, inr, ⊎_elim, eqb-true}
use mathlib.Core.List.{List, [], ◌∷◌, ◌++◌}
use native.Mathlib.Omega.{arith}
use Rattle.std.proofs.lemmas.Bool.{not-false}
use Rattle.machine.specs.Machine.{pick}
use Rattle.rules.specs.Numbers.{no_name}
use Rattle.rules.specs.Lists.{Found, lookup, pushed}
use Rattle.rules.specs.Lists.Found.{none, found}
use Rattle.rules.specs.Names.{token_of, renamed, under, names_left, tokens_left, names_with, tokens_with, of_another, is_new, with_token, without_token}
use Rattle.rules.specs.Packets.{Outcome, handle_of, live, bound, apply, Progress, Passed, Belongings, left_by, passed, target_after, tokens_after, pass}
use Rattle.rules.specs.State.{State}
use Rattle.rules.specs.State.Work.{packets}
use Rattle.rules.specs.declared.Entry.{Entry}
use Rattle.rules.specs.declared.Job.{Job}
use Rattle.rules.specs.declared.Stream.{Stream}
use Rattle.rules.specs.declared.Resource.{Resource}
use Rattle.rules.specs.declared.Token.{Token}
use Rattle.rules.specs.declared.ExportSurface.{ExportSurface}
use Rattle.rules.specs.declared.ImportSurface.{ImportSurface}
use Rattle.rules.specs.declared.Packet.{Packet}
use Rattle.rules.specs.declared.Packet.TheVariants.{Export, Import}
use Rattle.rows.specs.Keys.{same_or_not, lookup-pushed-same, lookup-pushed-other}
use Rattle.promises_of_packets.specs.Names.{none-not-found, found-same, in_found, moved, rebound, renamed-own, renamed-other}
use Rattle.promises_of_packets.proofs.Names.{lookup-unreleased, lookup-released}
use Rattle.promises_of_packets.specs.SoundNames.{Bindable, bound-is}
use Rattle.promises_of_packets.proofs.SoundNames.{one-resource, lowest-apart, gone, others-left, new-found, name-after-destroy, token-after-destroy, BoundTo, sound-bound, old-name, then-here, name-after-import, token-after-import}
use Rattle.promises_of_packets.specs.Effects.{Fresh, Exported, Imported, export-or}
use Rattle.promises_of_packets.proofs.Effects.{pass-or}
use Rattle.promises_of_packets.specs.Held.{Every, every-none, every-both, SoundProgress}
use Rattle.promises_of_units.specs.Called.{Called}
use Rattle.promises_of_sharing.specs.Shared.{Meaning, meaning_of, meaning_in, means, IsBound, SecondName}
use Rattle.promises_of_sharing.proofs.Shared.{an-import-is-a-second-name}
use Rattle.promises_of_sharing.specs.SharedTokens.{not-both}
use Rattle.promises_of_sharing.specs.TokensOverCalls.{CalledOn}
use Rattle.promises_of_sharing.proofs.TokensOverCalls.{what-is-held-is-sound}
use Rattle.promises_of_sharing.specs.PacketsTaken.{Taken, packets_since, Carries, InWork}
use Rattle.promises_of_sharing.proofs.PacketsTaken.{carried-between-resets, carried-in-work}
use Rattle.promises_of_sharing.specs.TokenLives.{Some, Exports}
use Rattle.promises_of_sharing.proofs.TokenLives.{live-over}
use Rattle.promises_of_sharing.specs.TokenMeans.{AsTheHandle, MeantAtExport, NamesTheExported, TokensMean, every-if-some, found-by-name, held_now, left, meaning-moved, name, names, new, rs, then, token_means}

-- ---- of no packets, and of one after the other

every-meant : (token : ℕ) (m n : Found Meaning) → n ≡ m → (xs : List Taken) → Every (MeantAtExport m token) xs → Every (MeantAtExport n token) xs
unfolding Every
every-meant token m n same [] h = h
every-meant token m n same (x ∷ xs) h = (λ e. same ∙ h.0 e, every-meant token m n same xs h.1)

mean-same : (b : Belongings) → TokensMean [] b b
mean-same b = record { bound-before = λ token p q. refl; exported-since = λ token q. every-none _; live_on = live-over.same b }

module _ (xs ys : List Taken) (a b c : Belongings) (first : TokensMean xs a b) (second : TokensMean ys b c) where
  -- between the two a token is bound, too, since one that is spent stays spent
  bound-between : (token : ℕ) → IsBound token a.tokens ⊎ Some (Exports token) xs → IsBound token c.tokens → IsBound token b.tokens
  bound-between token h q =
      ⊎_elim (λ x. x) (λ x. absurd (not-both token c.tokens (second.live_on.goes_on.spent token (first.live_on.spent token x)) q)) (first.live_on.lives token h)

  mean-both : TokensMean (ys ++ xs) a c
  mean-both =
      record {
        bound-before = λ token p q. let mid = bound-between token (inl p) q in second.bound-before token mid q ∙ first.bound-before token p mid;
        exported-since = λ token q.
            every-both (MeantAtExport (token_means token c) token) ys xs (second.exported-since token q)
            (every-if-some (Exports token) (λ (x : Taken) (e : Exports token x). token_means token c ≡ means e.0 x.before.holdings.resources) xs (λ h.
            let mid = bound-between token (inr h) q in
            every-meant token (token_means token b) (token_means token c) (second.bound-before token mid q) xs (first.exported-since token mid)));
        live_on = live-over.both xs ys a b c first.live_on second.live_on;
      }

-- ---- every packet

module _ (es : List Entry) (h : Progress) (s : SoundProgress es h) (token : ℕ) (b : IsBound token h.tokens) where
  -- the resource that it is bound to
  its : Bindable (name es h s token b) (rs es h s token b)
  its = s.tokens.bound-to token b.0 b.1 b.2

  before-is : token_means token (left_by h) ≡ means (name es h s token b) (rs es h s token b)
  before-is = found-by-name token (left_by h) b

  -- it has the same name after the packet, and that means the same
  by-the-same-name : (after : Belongings) → lookup token_of token after.tokens ≡ lookup token_of token h.tokens
      → lookup handle_of (name es h s token b) after.resources ≡ lookup handle_of (name es h s token b) (rs es h s token b) → token_means token after ≡ token_means token (left_by h)
  by-the-same-name after same here = found-by-name token after (b.0, same ∙ b.1, b.2) ∙ (ap meaning_in here ∙ sym before-is)

  -- or it followed its resource to another name
  by-another-name : (low new : ℕ) (mid : List Resource) (after : Belongings) → lookup token_of token after.tokens ≡ in_found (rebound low new) (lookup token_of token h.tokens)
      → ((n : ℕ) → lookup handle_of n after.resources ≡ in_found (moved low new) (lookup handle_of n mid)) → IsBound token after.tokens
      → ((renamed low new (name es h s token b) ≡ no_name → ⊥) → means (renamed low new (name es h s token b)) mid ≡ means (name es h s token b) (rs es h s token b)) → token_means token after ≡ token_means token (left_by h)
  by-another-name low new mid after follows all c means-it =
      let t : lookup token_of token after.tokens ≡ found (rebound low new b.0) = follows ∙ ap (in_found (rebound low new)) b.1 in
      let some : renamed low new (name es h s token b) ≡ no_name → ⊥ = λ z. c.2 (ap (λ (x : Token). x.name) (found-same (sym c.1 ∙ t)) ∙ z) in
      found-by-name token after (rebound low new b.0, t, some)
      ∙ (ap meaning_in (all (renamed low new (name es h s token b))) ∙ (meaning-moved low new (lookup handle_of (renamed low new (name es h s token b)) mid) ∙ (means-it some ∙ sym before-is)))

  means-stored : (r : Resource) → Fresh h.holdings r → token_means token (record { resources = pushed (rs es h s token b) r; tokens = h.tokens }) ≡ token_means token (left_by h)
  means-stored r f =
      by-the-same-name (record { resources = pushed (rs es h s token b) r; tokens = h.tokens }) refl (old-name (rs es h s token b) (names es h s token b) r f.unused (name es h s token b) its.what its.here ∙ sym its.here)

  module _ (k : ℕ) (r : Resource) (e : live k h.holdings ≡ found r) where
    left-means : (renamed r.lowest (new es h s token b k r e) (name es h s token b) ≡ no_name → ⊥) → means (renamed r.lowest (new es h s token b k r e) (name es h s token b)) (left es h s token b k r e) ≡ means (name es h s token b) (rs es h s token b)
    left-means some =
        ⊎_elim
        (λ u.
        let is : renamed r.lowest (new es h s token b k r e) (name es h s token b) ≡ (new es h s token b k r e) = renamed-own r.lowest (new es h s token b k r e) (name es h s token b) u in
        let x = new-found (rs es h s token b) s.holdings.resources.once s.holdings.resources.some (names es h s token b) k r e (λ z. some (is ∙ z)) in
        let apart : (new es h s token b k r e) ≡ k → ⊥ = λ v. none-not-found x.0 (sym (gone (rs es h s token b) s.holdings.resources.once s.holdings.resources.some (names es h s token b) k r e) ∙ (ap (λ n. lookup handle_of n (left es h s token b k r e)) (sym v) ∙ x.1)) in
        let here : lookup handle_of (new es h s token b k r e) (rs es h s token b) ≡ found x.0 = sym (others-left (rs es h s token b) s.holdings.resources.once s.holdings.resources.some (names es h s token b) k r e (new es h s token b k r e) apart) ∙ x.1 in
        let one : under 0 x.0 ≡ under 0 its.what = one-resource (rs es h s token b) (names es h s token b) (new es h s token b k r e) (name es h s token b) x.0 its.what here its.here (x.2 ∙ (sym u ∙ sym its.lowest)) 0 in
        ap (λ n. means n (left es h s token b k r e)) is ∙ (ap meaning_in x.1 ∙ (ap (λ (z : Resource). found (meaning_of z)) one ∙ sym (ap meaning_in its.here))))
        (λ u.
        let apart : (name es h s token b) ≡ k → ⊥ = λ v. lowest-apart (rs es h s token b) (names es h s token b) k (name es h s token b) r its.what e its.here (λ w. u (sym its.lowest ∙ w)) (its.lowest ∙ v) in
        ap (λ n. means n (left es h s token b k r e)) (renamed-other r.lowest (new es h s token b k r e) (name es h s token b) u)
        ∙ ap meaning_in (others-left (rs es h s token b) s.holdings.resources.once s.holdings.resources.some (names es h s token b) k r e (name es h s token b) apart))
        (same_or_not (name es h s token b) r.lowest)

    means-destroyed : IsBound token (tokens_left r (left es h s token b k r e) h.tokens)
        → token_means token (record { resources = names_left r (left es h s token b k r e); tokens = tokens_left r (left es h s token b k r e) h.tokens }) ≡ token_means token (left_by h)
    means-destroyed c =
        by-another-name r.lowest (new es h s token b k r e) (left es h s token b k r e) (record { resources = names_left r (left es h s token b k r e); tokens = tokens_left r (left es h s token b k r e) h.tokens })
        (token-after-destroy (rs es h s token b) s.holdings.resources.once s.holdings.resources.some (names es h s token b) k r e h.tokens s.tokens token)
        (name-after-destroy (rs es h s token b) s.holdings.resources.once s.holdings.resources.some (names es h s token b) k r e) c left-means

  module _ (k other : ℕ) (r : Resource) (i : Imported h k other r) where
    its-token : BoundTo other h.tokens (rs es h s token b) r
    its-token = sound-bound other h.tokens (rs es h s token b) r s.tokens i.bound-to

    mid-means : means (renamed r.lowest (then es h s token b k other r i) (name es h s token b)) (pushed (rs es h s token b) (under k r)) ≡ means (name es h s token b) (rs es h s token b)
    mid-means =
        ⊎_elim
        (λ u.
        ap (λ n. means n (pushed (rs es h s token b) (under k r))) (renamed-own r.lowest (then es h s token b k other r i) (name es h s token b) u)
        ∙ (ap meaning_in (then-here (rs es h s token b) (names es h s token b) k i.unused r its-token.lowest its-token.shape)
        ∙ sym (ap (λ n. means n (rs es h s token b)) u ∙ ap meaning_in its-token.lowest)))
        (λ u.
        ap (λ n. means n (pushed (rs es h s token b) (under k r))) (renamed-other r.lowest (then es h s token b k other r i) (name es h s token b) u)
        ∙ ap meaning_in (old-name (rs es h s token b) (names es h s token b) (under k r) i.unused (name es h s token b) its.what its.here ∙ sym its.here))
        (same_or_not (name es h s token b) r.lowest)

    means-imported : IsBound token (tokens_with k r h.tokens)
        → token_means token (record { resources = names_with k r (rs es h s token b); tokens = tokens_with k r h.tokens }) ≡ token_means token (left_by h)
    means-imported c =
        by-another-name r.lowest (then es h s token b k other r i) (pushed (rs es h s token b) (under k r)) (record { resources = names_with k r (rs es h s token b); tokens = tokens_with k r h.tokens })
        (token-after-import (rs es h s token b) (names es h s token b) k i.unused r its-token.lowest its-token.shape s.holdings.resources.some h.tokens s.tokens token)
        (name-after-import (rs es h s token b) (names es h s token b) k i.unused r its-token.lowest its-token.shape) c (λ _. mid-means)

  means-exported : (other low : ℕ) → token_means token (record { resources = (rs es h s token b); tokens = with_token other low h.tokens }) ≡ token_means token (left_by h)
  means-exported other low = by_found (lookup token_of other h.tokens) refl
    where
      by_found : (f : Found Token) → lookup token_of other h.tokens ≡ f
          → token_means token (record { resources = (rs es h s token b); tokens = pick (is_new f) (pushed h.tokens (record { name = low; token = other })) h.tokens }) ≡ token_means token (left_by h)
      by_found none e =
          by-the-same-name _
          (lookup-pushed-other token_of token h.tokens (record { name = low; token = other })
          (λ u. none-not-found b.0 (sym e ∙ (ap (λ i. lookup token_of i h.tokens) u ∙ b.1)))) refl
      by_found (found t) e = refl

  means-released : (other : ℕ) (r : Resource) → bound other h.tokens (rs es h s token b) ≡ found r → IsBound token (without_token other h.tokens)
      → token_means token (record { resources = (rs es h s token b); tokens = without_token other h.tokens }) ≡ token_means token (left_by h)
  means-released other r e c =
      let t = bound-is other h.tokens (rs es h s token b) r e in
      ⊎_elim
      (λ u. absurd (c.2 (ap (λ (x : Token). x.name) (found-same (sym c.1 ∙ (ap (λ i. lookup token_of i (without_token other h.tokens)) u ∙ lookup-released other h.tokens t.0 t.1))))))
      (λ u. by-the-same-name _ (lookup-unreleased other h.tokens t.0 t.1 token u) refl)
      (same_or_not token other)

  -- whatever the packet
  means-after : (p : Packet) → IsBound token (pass es h p).held.tokens → token_means token (left_by (pass es h p).held) ≡ token_means token (left_by h)
  means-after =
      pass-or (λ (o : Passed). IsBound token o.held.tokens → token_means token (left_by o.held) ≡ token_means token (left_by h)) es h (λ _ _. refl) (λ _. refl)
      (λ r f _. means-stored r f) (λ r e f i _. means-stored r f) means-destroyed (λ kind r e from size i _. refl) (λ k t e _. refl) (λ t c k _. refl)
      (λ k other r x _. means-exported other r.lowest) means-imported means-released

-- the packet that exports it: the token has the lowest name of the exported handle's resource
module _ (es : List Entry) (h : Progress) (s : SoundProgress es h) (c : ExportSurface) where
  as-its-lowest : (r : Resource) → live c.handle h.holdings ≡ found r → (ts : List Token) (t : Token) → lookup token_of c.token ts ≡ found t → t.name ≡ r.lowest
      → (AsTheHandle es h s c) (record { resources = (held_now es h s c); tokens = ts })
  as-its-lowest r named ts t e low b =
      let is : b.0.name ≡ r.lowest = ap (λ (x : Token). x.name) (found-same (sym b.1 ∙ e)) ∙ low in
      found-by-name c.token (record { resources = (held_now es h s c); tokens = ts }) b
      ∙ (ap (λ n. means n (held_now es h s c)) is ∙ (ap meaning_in (s.holdings.resources.names.lowest c.handle r named) ∙ sym (ap meaning_in named)))

  with-its-token : (r : Resource) → Exported h c.handle c.token r → (AsTheHandle es h s c) (record { resources = (held_now es h s c); tokens = with_token c.token r.lowest h.tokens })
  with-its-token r x = by_found (lookup token_of c.token h.tokens) refl x.same
    where
      by_found : (f : Found Token) → lookup token_of c.token h.tokens ≡ f → of_another f r.lowest ≡ false
          → (AsTheHandle es h s c) (record { resources = (held_now es h s c); tokens = pick (is_new f) (pushed h.tokens (record { name = r.lowest; token = c.token })) h.tokens })
      by_found none e o =
          as-its-lowest r x.named _ (record { name = r.lowest; token = c.token })
          (lookup-pushed-same token_of c.token h.tokens (record { name = r.lowest; token = c.token }) e refl) refl
      by_found (found t) e o = as-its-lowest r x.named h.tokens t e (eqb-true t.name r.lowest (not-false (eqb t.name r.lowest) o))

  an-export-means-its-handle : (pass es h (Export c)).verdict ≡ Ok tt → (AsTheHandle es h s c) (left_by (pass es h (Export c)).held)
  unfolding pass apply target_after tokens_after
  an-export-means-its-handle =
      export-or (λ (o : Outcome). o.verdict ≡ Ok tt → (AsTheHandle es h s c) (left_by (passed (Export c) h o).held)) h
      (λ r e. absurd (let z : ◌≡◌ {A = ℕ} 0 1 = cc in omega arith)) c (λ r x _. rw x.named (λ b. with-its-token r x b ∙ ap meaning_in x.named))

mean-packet : (es : List Entry) (h : Progress) → SoundProgress es h → (p : Packet) → (pass es h p).verdict ≡ Ok tt
    → TokensMean (record { before = h; packet = p } ∷ []) (left_by h) (left_by (pass es h p).held)
unfolding Every
mean-packet es h s p v =
    record {
      bound-before = λ token b. means-after es h s token b p;
      exported-since = λ token q. (λ e. at-its-export token e q, omega arith);
      live_on = live-over.packet es h s p v;
    }
  where
    at-its-export : (token : ℕ) (e : Exports token (record { before = h; packet = p })) → IsBound token (pass es h p).held.tokens
        → token_means token (left_by (pass es h p).held) ≡ means e.0 h.holdings.resources
    at-its-export token e =
        subst (λ (i : Packet). IsBound token (pass es h i).held.tokens → token_means token (left_by (pass es h i).held) ≡ means e.0 h.holdings.resources) (sym e.1)
        (an-export-means-its-handle es h s (record { handle = e.0; token = token }) (subst (λ (i : Packet). (pass es h i).verdict ≡ Ok tt) e.1 v))

-- ---- over any calls between resets

tokens-mean : Carries TokensMean
tokens-mean = record { same = mean-same; both = mean-both; packet = mean-packet }

pub tokens-mean-between-resets : (s t : State) (k : Called s) (q : CalledOn s t) → TokensMean (packets_since s t k q).by_good s.belongings t.belongings
tokens-mean-between-resets s t k q = carried-between-resets TokensMean tokens-mean s t k q

-- and while a later submission is in work: those, and its own so far
pub tokens-mean-in-work : (s t : State) (k : Called s) (q : CalledOn s t) (j : Job) (r : Stream) (at : ℕ) (es : List Entry) (h : Progress) → t.work ≡ packets j r at es h
    → TokensMean ((packets_since s t k q).in_work ++ (packets_since s t k q).by_good) s.belongings (left_by h)
tokens-mean-in-work s t k q j r at es h e =
    mean-both (packets_since s t k q).by_good (packets_since s t k q).in_work s.belongings t.belongings (left_by h) (tokens-mean-between-resets s t k q)
    (subst (InWork TokensMean tokens-mean (packets_since s t k q).in_work t.belongings) e (carried-in-work TokensMean tokens-mean s t k q))

-- ---- so the handle of an accepted import is a second name of the resource that was exported

pub a-later-import-names-the-exported : (s t : State) (k : Called s) → Called t → (q : CalledOn s t) (j : Job) (r : Stream) (at : ℕ) (es : List Entry) (h : Progress)
    → t.work ≡ packets j r at es h → (c : ImportSurface) → (pass es h (Import c)).verdict ≡ Ok tt
    → NamesTheExported c.token c.handle ((packets_since s t k q).in_work ++ (packets_since s t k q).by_good) s.belongings (pass es h (Import c)).held.holdings.resources
a-later-import-names-the-exported s t k l q j r at es h e c v =
    let m : TokensMean ((packets_since s t k q).in_work ++ (packets_since s t k q).by_good) s.belongings (left_by h) = tokens-mean-in-work s t k q j r at es h e in
    let n : SecondName c.token c.handle h (pass es h (Import c)).held = an-import-is-a-second-name es h (what-is-held-is-sound t l j r at es h e) c v in
    let is : means c.handle (pass es h (Import c)).held.holdings.resources ≡ token_means c.token (left_by h) = n.same ∙ sym (ap meaning_in n.bound-to) in
    let b = bound-is c.token h.tokens h.holdings.resources n.what n.bound-to in
    record {
      bound-before = λ p. is ∙ m.bound-before c.token p (b.0, b.1, b.2);
      exported-since =
          every-meant c.token (token_means c.token (left_by h)) (means c.handle (pass es h (Import c)).held.holdings.resources) is
          ((packets_since s t k q).in_work ++ (packets_since s t k q).by_good) (m.exported-since c.token (b.0, b.1, b.2));
    }
