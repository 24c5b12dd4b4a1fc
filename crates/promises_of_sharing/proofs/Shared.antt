-- The theorems of specs/Shared.antt, and what they rest on. Assumes nothing.
use Rattle.std.specs.Prelude.{◌≡◌, refl, Bool, true, false, List, ℕ, suc, ◌<◌, length, Ok}
use Rattle.std.proofs.Common.{sym, ap, subst, ◌∙◌, ⊎_elim, arith, length-append}
use Rattle.machine.specs.Machine.{pick}
use Rattle.rules.specs.Numbers.{no_name}
use Rattle.rules.specs.Lists.{lookup, index_of, pushed}
use Rattle.rules.specs.Lists.Found.{none, found}
use Rattle.rules.specs.Names.{token_of, shareable, renamed, with_lowest, under, rename, names_left, tokens_left, names_with}
use Rattle.rules.specs.Packets.{handle_of, live, bound, Progress, Passed, pass}
use Rattle.rules.specs.declared.Entry.{Entry}
use Rattle.rules.specs.declared.Resource.{Resource}
use Rattle.rules.specs.declared.Token.{Token}
use Rattle.rules.specs.declared.DestroyResource.{DestroyResource}
use Rattle.rules.specs.declared.ImportSurface.{ImportSurface}
use Rattle.rules.specs.declared.Packet.TheVariants.{Destroy, Import}
use Rattle.rows.specs.Keys.{same_or_not, length_removed, lookup-pushed-other}
use Rattle.promises_of_packets.specs.Names.{none-not-found, found-same, found-place, found-key, in_found, moved, rebound, renamed-own, renamed-other, length-rename}
use Rattle.promises_of_packets.specs.SoundNames.{SoundBut, apart-stays}
use Rattle.promises_of_packets.proofs.SoundNames.{two-names-shareable, gone, others-left, left-sound, new-found, low-some, name-after-destroy, name-destroyed, other-name-after-destroy, token-after-destroy, BoundTo, sound-bound, with-name-sound, name-after-import, name-imported, other-name-after-import}
use Rattle.promises_of_packets.specs.Effects.{Imported, destroyed, imported}
use Rattle.promises_of_packets.specs.Held.{SoundProgress}
use Rattle.promises_of_sharing.specs.Shared.{Destroyed, LeavesOthers, OneResource, SecondName, destroyed-is, first_name, imported-is, is, its-names, left, meaning-moved, meaning_in, new, now, rs, sound-names, was}

-- ---- a resource whose lowest name changes

module _ (k low new : ℕ) (rs mid after : List Resource)
    (names : (n : ℕ) → (n ≡ k → ⊥) → lookup handle_of n after ≡ in_found (moved low new) (lookup handle_of n rs))
    (in-mid : (n : ℕ) → (n ≡ k → ⊥) → lookup handle_of n mid ≡ lookup handle_of n rs)
    (all : (n : ℕ) → lookup handle_of n after ≡ in_found (moved low new) (lookup handle_of n mid))
    (s : SoundBut low new mid) where
  leaves-others : LeavesOthers k rs after
  leaves-others =
      record {
        mean-the-same = λ n other. ap meaning_in (names n other) ∙ (meaning-moved k low new rs mid after names in-mid all s) (lookup handle_of n rs);
        still_one = λ a b p q o.
            record {
              first = moved low new o.first;
              second = moved low new o.second;
              here = (is k low new rs mid after names in-mid all s) a p o.first o.here;
              there = (is k low new rs mid after names in-mid all s) b q o.second o.there;
              same = ap (renamed low new) o.same;
            };
        still-two = λ a b p q o.
            let x = (was k low new rs mid after names in-mid all s) a p o.first o.here in
            let y = (was k low new rs mid after names in-mid all s) b q o.second o.there in
            record {
              first = x.0;
              second = y.0;
              here = x.1;
              there = y.1;
              same =
                  apart-stays low new mid after all s a b x.0 y.0 (in-mid a p ∙ x.1) (in-mid b q ∙ y.1)
                  (sym x.2 ∙ (o.same ∙ y.2));
            };
      }

-- ---- "destroying one name leaves the others, and destroying the last frees the room"

module _ (es : List Entry) (h : Progress) (s : SoundProgress es h) where
  module _ (k : ℕ) (r : Resource) (e : live k h.holdings ≡ found r) where
    shorter : length (rs es h s) ≡ suc (length (names_left r (left es h s k r e)))
    shorter = by_test (shareable r.kind)
      where
        here : index_of handle_of k (rs es h s) < length (rs es h s)
        here = found-place handle_of k (rs es h s) r e

        one_less : length (rs es h s) ≡ suc (length (left es h s k r e))
        one_less = rw (length_removed (index_of handle_of k (rs es h s)) (rs es h s) here) (omega (arith, here))

        by_test : (b : Bool) → length (rs es h s) ≡ suc (length (pick b (rename r.lowest (new es h s k r e) (left es h s k r e)) (left es h s k r e)))
        by_test true = rw (length-rename r.lowest (new es h s k r e) (left es h s k r e)) one_less
        by_test false = one_less

    destroy-leaves : LeavesOthers k (rs es h s) (names_left r (left es h s k r e))
    destroy-leaves =
        leaves-others k r.lowest (new es h s k r e) (rs es h s) (left es h s k r e) (names_left r (left es h s k r e))
        (other-name-after-destroy (rs es h s) s.holdings.resources.once s.holdings.resources.some (sound-names es h s) k r e)
        (others-left (rs es h s) s.holdings.resources.once s.holdings.resources.some (sound-names es h s) k r e)
        (name-after-destroy (rs es h s) s.holdings.resources.once s.holdings.resources.some (sound-names es h s) k r e)
        (left-sound (rs es h s) s.holdings.resources.once s.holdings.resources.some (sound-names es h s) k r e)

    token-then : (token : ℕ) (t : Token) → lookup token_of token h.tokens ≡ found t
        → lookup token_of token (tokens_left r (left es h s k r e) h.tokens) ≡ found (rebound r.lowest (new es h s k r e) t)
    token-then token t f =
        token-after-destroy (rs es h s) s.holdings.resources.once s.holdings.resources.some (sound-names es h s) k r e h.tokens s.tokens token
        ∙ ap (in_found (rebound r.lowest (new es h s k r e))) f

    destroy_comes_to : Destroyed k h (destroyed h k r).held
    destroy_comes_to =
        record {
          gone-now = name-destroyed (rs es h s) s.holdings.resources.once s.holdings.resources.some (sound-names es h s) k r e;
          others = destroy-leaves;
          room = shorter;
          last_spends = λ last token n.
              let is : n.resource ≡ r = found-same (sym n.here ∙ e) in
              let its : n.what.name ≡ r.lowest = sym n.same ∙ ap (λ (z : Resource). z.lowest) is in
              let none_left : (new es h s k r e) ≡ 0 = nothing_left last in
              token-then token n.what n.used
              ∙ (ap (λ i. found (record { name = i; token = n.what.token })) (renamed-own r.lowest (new es h s k r e) n.what.name its ∙ none_left)
              ∙ ap (λ i. found (record { name = no_name; token = i })) (found-key token_of token h.tokens n.what n.used));
          others-tokens = λ token t f other.
              token-then token t f
              ∙ ap (λ i. found (record { name = i; token = t.token }))
              (renamed-other r.lowest (new es h s k r e) t.name (λ u. other (record {
                what = t;
                used = f;
                bound-one = λ z. low-some (rs es h s) s.holdings.resources.once s.holdings.resources.some (sound-names es h s) k r e (sym u ∙ z);
                resource = r;
                here = e;
                same = sym u;
              })));
        }
      where
        nothing_left : ((n : ℕ) → OneResource (rs es h s) n k → n ≡ k) → (new es h s k r e) ≡ 0
        nothing_left last =
            ⊎_elim (λ z. z)
            (λ some.
            let x = new-found (rs es h s) s.holdings.resources.once s.holdings.resources.some (sound-names es h s) k r e some in
            let apart : (new es h s k r e) ≡ k → ⊥ = λ u. none-not-found x.0 (sym (gone (rs es h s) s.holdings.resources.once s.holdings.resources.some (sound-names es h s) k r e) ∙ (ap (λ i. lookup handle_of i (left es h s k r e)) (sym u) ∙ x.1)) in
            absurd (apart (last (new es h s k r e) (record {
              first = x.0;
              second = r;
              here = sym (others-left (rs es h s) s.holdings.resources.once s.holdings.resources.some (sound-names es h s) k r e (new es h s k r e) apart) ∙ x.1;
              there = e;
              same = x.2;
            }))))
            (same_or_not (new es h s k r e) 0)

  pub destroying_a_name_leaves_the_others : (c : DestroyResource) → (pass es h (Destroy c)).verdict ≡ Ok tt → Destroyed c.handle h (pass es h (Destroy c)).held
  destroying_a_name_leaves_the_others c v =
      let d = destroyed-is es h c v in
      subst (λ (o : Passed). Destroyed c.handle h o.held) (sym d.2) (destroy_comes_to c.handle d.0 d.1)

-- ---- "Import makes the handle a second name for the exported resource"

module _ (es : List Entry) (h : Progress) (s : SoundProgress es h) where
  module _ (k token : ℕ) (r : Resource) (i : Imported h k token r) where
    its-token : BoundTo token h.tokens (now es h s) r
    its-token = sound-bound token h.tokens (now es h s) r s.tokens i.bound-to

    longer : length (names_with k r (now es h s)) ≡ suc (length (now es h s))
    longer = length-rename r.lowest (first_name es h s k token r i) (pushed (now es h s) (under k r)) ∙ simp length-append (omega arith)

    import-leaves : LeavesOthers k (now es h s) (names_with k r (now es h s))
    import-leaves =
        leaves-others k r.lowest (first_name es h s k token r i) (now es h s) (pushed (now es h s) (under k r)) (names_with k r (now es h s))
        (other-name-after-import (now es h s) (its-names es h s) k i.unused r its-token.lowest its-token.shape)
        (λ n other. lookup-pushed-other handle_of n (now es h s) (under k r) (λ u. other (sym u)))
        (name-after-import (now es h s) (its-names es h s) k i.unused r its-token.lowest its-token.shape)
        (with-name-sound (now es h s) (its-names es h s) k i.unused r its-token.lowest its-token.shape)

    import-comes-to : SecondName token k h (imported h k r).held
    import-comes-to =
        let here : lookup handle_of k (names_with k r (now es h s)) ≡ found (with_lowest (first_name es h s k token r i) (under k r)) =
        name-imported (now es h s) (its-names es h s) k i.unused r its-token.lowest its-token.shape in
        let own : r.handle ≡ r.lowest = found-key handle_of r.lowest (now es h s) r its-token.lowest in
        let apart : r.handle ≡ k → ⊥ = λ u. none-not-found r (sym i.unused ∙ (ap (λ n. lookup handle_of n (now es h s)) (sym u ∙ own) ∙ its-token.lowest)) in
        let there : lookup handle_of r.handle (names_with k r (now es h s)) ≡ found (moved r.lowest (first_name es h s k token r i) r) =
        other-name-after-import (now es h s) (its-names es h s) k i.unused r its-token.lowest its-token.shape r.handle apart
        ∙ ap (in_found (moved r.lowest (first_name es h s k token r i))) (ap (λ n. lookup handle_of n (now es h s)) own ∙ its-token.lowest) in
        record {
          what = r;
          bound-to = i.bound-to;
          new-one = i.unused;
          same = ap meaning_in here;
          one = record {
            first = with_lowest (first_name es h s k token r i) (under k r);
            second = moved r.lowest (first_name es h s k token r i) r;
            here = here;
            there = there;
            same = sym (renamed-own r.lowest (first_name es h s k token r i) r.lowest refl);
          };
          others = import-leaves;
          room = longer;
          no_record = refl;
        }

  pub an-import-is-a-second-name : (c : ImportSurface) → (pass es h (Import c)).verdict ≡ Ok tt → SecondName c.token c.handle h (pass es h (Import c)).held
  an-import-is-a-second-name c v =
      let d = imported-is es h c v in
      subst (λ (o : Passed). SecondName c.token c.handle h o.held) (sym d.2) (import-comes-to c.handle c.token d.0 d.1)

  -- ---- "Only textures with one mip and one layer may be exported"

  -- so is every resource that has two names, or a token
  pub two-names-are-of-such-a-texture : (a b : ℕ) (o : OneResource (now es h s) a b) → (a ≡ b → ⊥) → shareable o.first.kind ≡ true
  two-names-are-of-such-a-texture a b o other = two-names-shareable (now es h s) (its-names es h s) a b o.first o.second o.here o.there o.same other

  pub a-token-is-of-such-a-texture : (token : ℕ) (r : Resource) → bound token h.tokens (now es h s) ≡ found r → shareable r.kind ≡ true
  a-token-is-of-such-a-texture token r e = (sound-bound token h.tokens (now es h s) r s.tokens e).shape
