-- The theorems of specs/NamesKept.antt, and what they rest on. Assumes nothing.
use Rattle.std.specs.Prelude.{◌≡◌, ℕ, take, Err, Ok}
use Rattle.std.proofs.Math.Path.{refl}
use Rattle.std.proofs.Common.{sym, ap, ◌∙◌, ⊎_elim, arith}
use mathlib.Core.List.{List, [], ◌++◌}
use Rattle.rules.specs.Lists.{Found, lookup, pushed}
use Rattle.rules.specs.Lists.Found.{none, found}
use Rattle.rules.specs.Names.{names_left, names_with}
use Rattle.rules.specs.Stream.{frame_of, packet_of, Frame}
use Rattle.rules.specs.StatePackets.{bad_viewport, bad_clear}
use Rattle.rules.specs.Packets.{accepted, handle_of, live, is_live, without, on_buffer_packet, on_texture_packet, on_viewport_packet, on_clear_packet, bound, apply, Progress, Belongings, left_by, tokens_after, pass, pass_frame, take_packet}
use Rattle.rules.specs.declared.Entry.{Entry}
use Rattle.rules.specs.declared.Resource.{Resource}
use Rattle.rules.specs.declared.Packet.{Packet}
use Rattle.rules.specs.declared.Packet.TheVariants.{Buffer, Texture, Destroy, Dirty, Copy, Target, Viewport, Scissor, Clear, Export, Import, Release, NotANumber, Unknown}
use Rattle.rules.specs.declared.Refusal.TheVariants.{BadState}
use Rattle.rows.specs.Keys.{same_or_not, lookup-pushed-same, lookup-pushed-other}
use Rattle.promises_of_packets.specs.Names.{none-not-found, found-same}
use Rattle.promises_of_packets.specs.SoundNames.{Bindable}
use Rattle.promises_of_packets.proofs.SoundNames.{other-name-after-destroy, BoundTo, sound-bound, other-name-after-import}
use Rattle.promises_of_packets.specs.Effects.{buffer-created, texture-created, Fresh, refuse-or, create-or, dirty-or, copy-or, destroy-or, target-or, scissor-or, export-or, import-or, release-or}
use Rattle.promises_of_packets.specs.Held.{Every, every_front, every_back, SoundProgress}
use Rattle.promises_of_sharing.specs.Shared.{IsBound, NameOf}
use Rattle.promises_of_sharing.specs.SharedTokens.{TokensGoOn, KeepsResources, name-stays, spent_or_bound, not-both}
use Rattle.promises_of_sharing.proofs.SharedTokens.{tokens-stay}
use Rattle.promises_of_sharing.specs.NamesKept.{Keeps, KeepsNamesBut, NotAmong, SameLive, imported_or_destroyed, in_frame, live_moved, rs}

-- ---- the names that count

pub keeps_same : (names : List ℕ) (b : Belongings) → KeepsNamesBut names b b
keeps_same names b = record { keeps = λ token k other p q. (λ n. n, λ n. n) }

-- one after the other: in between the token is bound, too, since one that is spent stays spent
pub keeps-both : (xs ys : List ℕ) (a b c : Belongings) → TokensGoOn a.tokens b.tokens → TokensGoOn b.tokens c.tokens
    → KeepsNamesBut xs a b → KeepsNamesBut ys b c → KeepsNamesBut (ys ++ xs) a c
keeps-both xs ys a b c on later first second =
    record {
      keeps = λ token k other p q.
          let mid : IsBound token b.tokens =
          ⊎_elim (λ w. absurd (not-both token c.tokens (later.spent token w) q)) (λ w. w) (spent_or_bound token b.tokens (on.used token (p.0, p.1))) in
          let one = first.keeps token k (every_back _ ys xs other) p mid in
          let two = second.keeps token k (every_front _ ys xs other) mid q in
          (λ n. two.0 (one.0 n), λ n. one.1 (two.1 n));
    }

-- ---- every packet

module _ (es : List Entry) (h : Progress) (s : SoundProgress es h) where
  -- a new resource has no token yet, since each bound one is bound to a live name
  with-a-new-one : (r : Resource) → Fresh h.holdings r → KeepsNamesBut [] (left_by h) (record { resources = pushed (rs es h s) r; tokens = h.tokens })
  with-a-new-one r f =
      record {
        keeps = λ token k _ _ _.
            ⊎_elim
            (λ same. (
              λ n. absurd (none-not-found n.resource (sym f.unused ∙ (ap (λ i. lookup handle_of i (rs es h s)) same ∙ n.here))),
              λ n.
                  let its : n.resource ≡ r = found-same (sym n.here ∙ lookup-pushed-same handle_of k (rs es h s) r (ap (λ i. lookup handle_of i (rs es h s)) (sym same) ∙ f.unused) same) in
                  let name : r.handle ≡ n.what.name = sym f.own ∙ (ap (λ (x : Resource). x.lowest) (sym its) ∙ n.same) in
                  let b : Bindable n.what.name (rs es h s) = s.tokens.bound-to token n.what n.used n.bound-one in
                  absurd (none-not-found b.what (sym f.unused ∙ (ap (λ i. lookup handle_of i (rs es h s)) name ∙ b.here))),
            ))
            (λ apart.
            let here : lookup handle_of k (pushed (rs es h s) r) ≡ lookup handle_of k (rs es h s) = lookup-pushed-other handle_of k (rs es h s) r apart in (
              name-stays token k h.tokens h.tokens (rs es h s) (pushed (rs es h s) r) refl here,
              name-stays token k h.tokens h.tokens (pushed (rs es h s) r) (rs es h s) refl (sym here),
            ))
            (same_or_not r.handle k);
      }

  -- a name that is live before and after is kept (SharedTokens.antt), and one that is live neither before nor after is nobody's
  by-liveness : (token k : ℕ) (g : Progress) → KeepsResources h g → IsBound token h.tokens → IsBound token g.tokens
      → (before after : Found Resource) → live k h.holdings ≡ before → live k g.holdings ≡ after → is_live after ≡ is_live before
      → (NameOf token k h.tokens (rs es h s) → NameOf token k g.tokens g.holdings.resources)
      × (NameOf token k g.tokens g.holdings.resources → NameOf token k h.tokens (rs es h s))
  by-liveness token k g r p q (found x) (found y) d e same = r.keeps token k p q (λ z. none-not-found x (sym z ∙ d)) (λ z. none-not-found y (sym z ∙ e))
  by-liveness token k g r p q none none d e same =
      (λ n. absurd (none-not-found n.resource (sym d ∙ n.here)), λ n. absurd (none-not-found n.resource (sym e ∙ n.here)))
  by-liveness token k g r p q none (found y) d e same = absurd (let z : ◌≡◌ {A = ℕ} 0 1 = cc in omega arith)
  by-liveness token k g r p q (found x) none d e same = absurd (let z : ◌≡◌ {A = ℕ} 0 1 = cc in omega arith)

  with-names-as-live : (p : Packet) → ((k : ℕ) → NotAmong k (imported_or_destroyed p) → (SameLive es h s) k (apply es h.target h.tokens h.holdings p))
      → KeepsNamesBut (imported_or_destroyed p) (left_by h) (left_by (pass es h p).held)
  unfolding pass
  with-names-as-live p same =
      record { keeps = λ token k other a b. by-liveness token k (pass es h p).held (tokens-stay es h s p).resources a b _ _ refl refl (same k other) }

  destroy-leaves : (k : ℕ) (r : Resource) → live k h.holdings ≡ found r → (n : ℕ) → (k ≡ n → ⊥)
      → is_live (lookup handle_of n (names_left r (without k h.holdings))) ≡ is_live (live n h.holdings)
  destroy-leaves k r e n other =
      ap is_live (other-name-after-destroy (rs es h s) s.holdings.resources.once s.holdings.resources.some s.holdings.resources.names k r e n (λ u. other (sym u)))
      ∙ live_moved r.lowest _ (live n h.holdings)

  import-leaves : (k token : ℕ) (r : Resource) → live k h.holdings ≡ none → bound token h.tokens (rs es h s) ≡ found r → (n : ℕ) → (k ≡ n → ⊥)
      → is_live (lookup handle_of n (names_with k r (rs es h s))) ≡ is_live (live n h.holdings)
  import-leaves k token r unused e n other =
      let b : BoundTo token h.tokens (rs es h s) r = sound-bound token h.tokens (rs es h s) r s.tokens e in
      ap is_live (other-name-after-import (rs es h s) s.holdings.resources.names k unused r b.lowest b.shape n (λ u. other (sym u)))
      ∙ live_moved r.lowest _ (live n h.holdings)

  -- whatever the packet, accepted or refused
  pub a-packet-keeps-names : (p : Packet) → KeepsNamesBut (imported_or_destroyed p) (left_by h) (left_by (pass es h p).held)
  unfolding pass apply tokens_after Every on_buffer_packet on_texture_packet on_viewport_packet on_clear_packet
  a-packet-keeps-names (Buffer c) =
      create-or ((Keeps es h s) (Buffer c)) h.holdings (λ r. keeps_same [] (left_by h)) es with-a-new-one (λ r e f i. with-a-new-one r f) _ _ refl
      (buffer-created c.handle c.size c.backing c.offset)
  a-packet-keeps-names (Texture c) =
      create-or ((Keeps es h s) (Texture c)) h.holdings (λ r. keeps_same [] (left_by h)) es with-a-new-one (λ r e f i. with-a-new-one r f) _ _ refl
      (texture-created c.handle c.shape c.pitch c.backing c.offset)
  a-packet-keeps-names (Destroy c) =
      with-names-as-live (Destroy c) (λ k other. destroy-or ((SameLive es h s) k) h.holdings (λ r. refl) c (λ r e. destroy-leaves c.handle r e k other.0))
  a-packet-keeps-names (Dirty c) =
      with-names-as-live (Dirty c) (λ k other. dirty-or ((SameLive es h s) k) h.holdings (λ r. refl) es refl (λ kind r e from size i. refl) c)
  a-packet-keeps-names (Copy c) =
      with-names-as-live (Copy c) (λ k other. copy-or ((SameLive es h s) k) h.holdings (λ r. refl) es refl (λ kind r e from size i. refl) c)
  a-packet-keeps-names (Target c) = with-names-as-live (Target c) (λ k other. target-or ((SameLive es h s) k) h.holdings (λ r. refl) c (λ t e. refl))
  a-packet-keeps-names (Viewport v) =
      with-names-as-live (Viewport v) (λ k other. refuse-or ((SameLive es h s) k) h.holdings (λ r. refl) BadState (bad_viewport v) (accepted h.holdings) (λ e. refl))
  a-packet-keeps-names (Scissor c) = with-names-as-live (Scissor c) (λ k other. scissor-or ((SameLive es h s) k) h.holdings (λ r. refl) h.target c (λ t e. refl))
  a-packet-keeps-names (Clear c) =
      with-names-as-live (Clear c) (λ k other. refuse-or ((SameLive es h s) k) h.holdings (λ r. refl) BadState (bad_clear c) (accepted h.holdings) (λ e. refl))
  a-packet-keeps-names (Export c) = with-names-as-live (Export c) (λ k other. export-or ((SameLive es h s) k) h (λ r. refl) c (λ r e. refl))
  a-packet-keeps-names (Import c) =
      with-names-as-live (Import c) (λ k other. import-or ((SameLive es h s) k) h.holdings (λ r. refl) h.tokens c (λ r some unused e room.
      import-leaves c.handle c.token r unused e k other.0))
  a-packet-keeps-names (Release c) = with-names-as-live (Release c) (λ k other. release-or ((SameLive es h s) k) h.holdings (λ r. refl) h.tokens c (λ r e. refl))
  a-packet-keeps-names NotANumber = keeps_same [] (left_by h)
  a-packet-keeps-names Unknown = keeps_same [] (left_by h)

  -- and whatever the bytes left of a stream begin with
  pub names-kept-in-a-stream : (b : List ℕ) → KeepsNamesBut (in_frame b (frame_of b)) (left_by h) (left_by (take_packet es h b).held)
  unfolding take_packet
  names-kept-in-a-stream b = by_frame (frame_of b)
    where
      by_frame : (f : Frame) → KeepsNamesBut (in_frame b f) (left_by h) (left_by (pass_frame es h b f).held)
      by_frame (Ok (op, size)) = a-packet-keeps-names (packet_of op (take size b))
      by_frame (Err r) = keeps_same [] (left_by h)
