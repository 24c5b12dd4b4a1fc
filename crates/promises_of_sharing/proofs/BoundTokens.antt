-- The theorems of specs/BoundTokens.antt, and what they rest on. Assumes nothing.
use Rattle.std.specs.Prelude.{◌≡◌, refl, List, ◌⊎◌, ℕ}
use Rattle.std.proofs.Common.{sym, ap, ◌∙◌}
use Rattle.std.proofs.Math.Logic.{inl, inr, ⊎_elim}
use Rattle.machine.specs.Machine.{pick}
use Rattle.rules.specs.Numbers.{no_name}
use Rattle.rules.specs.Lists.{Found, lookup, pushed}
use Rattle.rules.specs.Lists.Found.{none, found}
use Rattle.rules.specs.Names.{token_of, renamed, lower, tokens_left, tokens_with, is_new, with_token, without_token}
use Rattle.rules.specs.Packets.{Outcome, handle_of, live, bound, apply, Progress, passed, target_after, tokens_after, pass}
use Rattle.rules.specs.declared.Entry.{Entry}
use Rattle.rules.specs.declared.Resource.{Resource}
use Rattle.rules.specs.declared.Token.{Token}
use Rattle.rules.specs.declared.Packet.{Packet}
use Rattle.rules.specs.declared.Packet.TheVariants.{Buffer, Texture, Destroy, Dirty, Copy, Target, Viewport, Scissor, Clear, Export, Import, Release, NotANumber, Unknown}
use Rattle.rows.specs.Keys.{same_or_not, lookup-pushed-other}
use Rattle.promises_of_packets.specs.Names.{none-not-found, found-same, renamed-own, renamed-other}
use Rattle.promises_of_packets.proofs.Names.{lookup-unreleased}
use Rattle.promises_of_packets.specs.SoundNames.{bound-is, lower-either}
use Rattle.promises_of_packets.proofs.SoundNames.{others-left, left-sound, token-after-destroy, BoundTo, sound-bound, token-after-import}
use Rattle.promises_of_packets.specs.Effects.{Imported, destroy-or, export-or, import-or, release-or}
use Rattle.promises_of_packets.specs.Held.{SoundProgress}
use Rattle.promises_of_sharing.specs.Shared.{OneResource, IsBound}
use Rattle.promises_of_sharing.specs.BoundTokens.{BoundUnless, LastNameOf, bound-follows, held, known, left, new}

-- ---- each packet that changes tokens

module _ (es : List Entry) (h : Progress) (s : SoundProgress es h) (token : ℕ) (b : IsBound token h.tokens) where
  module _ (k : ℕ) (r : Resource) (e : live k h.holdings ≡ found r) where
    after-destroy : (renamed r.lowest (new es h s token b k r e) b.0.name ≡ no_name → ⊥) → IsBound token (tokens_left r (left es h s token b k r e) h.tokens)
    after-destroy =
        bound-follows token r.lowest (new es h s token b k r e) h.tokens (tokens_left r (left es h s token b k r e) h.tokens)
        (token-after-destroy (held es h s token b) s.holdings.resources.once s.holdings.resources.some (known es h s token b) k r e h.tokens s.tokens token) b

    -- where no name is left, there was no other
    no_other : (new es h s token b k r e) ≡ 0 → (n : ℕ) → OneResource (held es h s token b) n k → n ≡ k
    no_other z n o =
        ⊎_elim (λ u. u)
        (λ other.
        let is : o.second ≡ r = found-is o.there in
        let in_left : lookup handle_of n (left es h s token b k r e) ≡ found o.first = others-left (held es h s token b) s.holdings.resources.once s.holdings.resources.some (known es h s token b) k r e n other ∙ o.here in
        let lowest : lookup handle_of (new es h s token b k r e) (left es h s token b k r e) ≡ found _ =
        (left-sound (held es h s token b) s.holdings.resources.once s.holdings.resources.some (known es h s token b) k r e).its-lowest n o.first in_left (o.same ∙ ap (λ (x : Resource). x.lowest) is) in
        let zero-apart : 0 ≡ k → ⊥ = λ u. none-not-found r (sym s.holdings.resources.some ∙ (ap (λ i. lookup handle_of i (held es h s token b)) u ∙ e)) in
        let zero_left : lookup handle_of 0 (left es h s token b k r e) ≡ none = others-left (held es h s token b) s.holdings.resources.once s.holdings.resources.some (known es h s token b) k r e 0 zero-apart ∙ s.holdings.resources.some in
        absurd (none-not-found _ (sym zero_left ∙ (ap (λ i. lookup handle_of i (left es h s token b k r e)) (sym z) ∙ lowest))))
        (same_or_not n k)
      where
        found-is : {x : Resource} → lookup handle_of k (held es h s token b) ≡ found x → x ≡ r
        found-is f = found-same (sym f ∙ e)

    bound-destroyed : IsBound token (tokens_left r (left es h s token b k r e) h.tokens) ⊎ LastNameOf token k h
    bound-destroyed =
        ⊎_elim
        (λ u. ⊎_elim
        (λ z. inr (record {
          its-name = record { what = b.0; used = b.1; bound-one = b.2; resource = r; here = e; same = sym u };
          last = no_other z;
        }))
        (λ some. inl (after-destroy (λ z. some (sym (renamed-own r.lowest (new es h s token b k r e) b.0.name u) ∙ z))))
        (same_or_not (new es h s token b k r e) 0))
        (λ u. inl (after-destroy (λ z. b.2 (sym (renamed-other r.lowest (new es h s token b k r e) b.0.name u) ∙ z))))
        (same_or_not b.0.name r.lowest)

  bound-imported : (k other : ℕ) (r : Resource) → Imported h k other r → IsBound token (tokens_with k r h.tokens)
  bound-imported k other r i =
      let t : BoundTo other h.tokens (held es h s token b) r = sound-bound other h.tokens (held es h s token b) r s.tokens i.bound-to in
      let low : r.lowest ≡ no_name → ⊥ = λ z. none-not-found r (sym s.holdings.resources.some ∙ (ap (λ n. lookup handle_of n (held es h s token b)) (sym z) ∙ t.lowest)) in
      bound-follows token r.lowest (lower k r.lowest) h.tokens (tokens_with k r h.tokens)
      (token-after-import (held es h s token b) (known es h s token b) k i.unused r t.lowest t.shape s.holdings.resources.some h.tokens s.tokens token) b
      (λ z. ⊎_elim
      (λ u.
      let none-now : lower k r.lowest ≡ 0 = sym (renamed-own r.lowest (lower k r.lowest) b.0.name u) ∙ z in
      ⊎_elim (λ q. i.some (sym q ∙ none-now)) (λ q. low (sym q ∙ none-now)) (lower-either k r.lowest))
      (λ u. b.2 (sym (renamed-other r.lowest (lower k r.lowest) b.0.name u) ∙ z))
      (same_or_not b.0.name r.lowest))

  bound-exported : (other name : ℕ) → IsBound token (with_token other name h.tokens)
  bound-exported other name = by_found (lookup token_of other h.tokens) refl
    where
      by_found : (f : Found Token) → lookup token_of other h.tokens ≡ f → IsBound token (pick (is_new f) (pushed h.tokens (record { name = name; token = other })) h.tokens)
      by_found none e =
          (b.0, lookup-pushed-other token_of token h.tokens (record { name = name; token = other }) (λ u. none-not-found b.0 (sym e ∙ (ap (λ i. lookup token_of i h.tokens) u ∙ b.1))) ∙ b.1, b.2)
      by_found (found t) e = b

  bound-released : (other : ℕ) (r : Resource) → bound other h.tokens (held es h s token b) ≡ found r → IsBound token (without_token other h.tokens) ⊎ (token ≡ other)
  bound-released other r e =
      let t = bound-is other h.tokens (held es h s token b) r e in
      ⊎_elim (λ u. inr u) (λ u. inl (b.0, lookup-unreleased other h.tokens t.0 t.1 token u ∙ b.1, b.2)) (same_or_not token other)

  -- ---- "destroying one name leaves the others": whatever the packet, accepted or refused, a token that is bound before it is bound after it, unless
  -- it is the release of that token or a destroy of the last name of its resource

  pub a-bound-token-is-spent-only-by-its-release-or-with-its-last-name : (p : Packet) → BoundUnless token h p (pass es h p).held.tokens
  unfolding pass apply target_after tokens_after
  a-bound-token-is-spent-only-by-its-release-or-with-its-last-name (Buffer c) = inl b
  a-bound-token-is-spent-only-by-its-release-or-with-its-last-name (Texture c) = inl b
  a-bound-token-is-spent-only-by-its-release-or-with-its-last-name (Destroy c) =
      destroy-or (λ (o : Outcome). BoundUnless token h (Destroy c) (passed (Destroy c) h o).held.tokens) h.holdings (λ _. inl b) c
      (λ r e. rw e (⊎_elim (λ x. inl x) (λ l. inr (inr (record { what = c; is = refl; last_name = l }))) (bound-destroyed c.handle r e)))
  a-bound-token-is-spent-only-by-its-release-or-with-its-last-name (Dirty c) = inl b
  a-bound-token-is-spent-only-by-its-release-or-with-its-last-name (Copy c) = inl b
  a-bound-token-is-spent-only-by-its-release-or-with-its-last-name (Target c) = inl b
  a-bound-token-is-spent-only-by-its-release-or-with-its-last-name (Viewport v) = inl b
  a-bound-token-is-spent-only-by-its-release-or-with-its-last-name (Scissor c) = inl b
  a-bound-token-is-spent-only-by-its-release-or-with-its-last-name (Clear c) = inl b
  a-bound-token-is-spent-only-by-its-release-or-with-its-last-name (Export c) =
      export-or (λ (o : Outcome). BoundUnless token h (Export c) (passed (Export c) h o).held.tokens) h (λ _. inl b) c
      (λ r x. rw x.named (inl (bound-exported c.token r.lowest)))
  a-bound-token-is-spent-only-by-its-release-or-with-its-last-name (Import c) =
      import-or (λ (o : Outcome). BoundUnless token h (Import c) (passed (Import c) h o).held.tokens) h.holdings (λ _. inl b) h.tokens c
      (λ r some unused e room. rw e (inl (bound-imported c.handle c.token r (record { some = some; unused = unused; bound-to = e; room = room }))))
  a-bound-token-is-spent-only-by-its-release-or-with-its-last-name (Release c) =
      release-or (λ (o : Outcome). BoundUnless token h (Release c) (passed (Release c) h o).held.tokens) h.holdings (λ _. inl b) h.tokens c
      (λ r e. ⊎_elim (λ x. inl x) (λ u. inr (inl (ap (λ i. Release (record { token = i })) (sym u)))) (bound-released c.token r e))
  a-bound-token-is-spent-only-by-its-release-or-with-its-last-name NotANumber = inl b
  a-bound-token-is-spent-only-by-its-release-or-with-its-last-name Unknown = inl b
