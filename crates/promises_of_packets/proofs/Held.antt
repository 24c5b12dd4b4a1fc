-- The theorems of specs/Held.antt, and what they rest on. Assumes nothing.
use Rattle.std.specs.Prelude.{◌≡◌, Bool, take, Err, Ok}
use Rattle.std.proofs.Math.Path.{refl, ap, subst}
use Rattle.std.proofs.Common.{sym, ◌∙◌, length-append}
use Rattle.std.proofs.Math.Bool.{true, false}
use mathlib.Core.List.{List, []}
use Prim.Native.Nat.{ℕ, ◌≤◌, ◌<◌}
use native.Mathlib.Omega.{arith}
use Rattle.std.proofs.lemmas.Bool.{eqb-false}
use Rattle.std.proofs.Math.Dec.{eqb}
use Rattle.std.proofs.Math.ListN.{length}
use Rattle.machine.specs.Machine.{pick}
use Rattle.rules.specs.Numbers.{most}
use Rattle.rules.specs.Lists.{lookup, index_of, pushed}
use Rattle.rules.specs.Lists.Found.{none, found}
use Rattle.rules.specs.Stream.{frame_of, packet_of, Frame}
use Rattle.rules.specs.StatePackets.{clip_of}
use Rattle.rules.specs.Names.{shareable, under, rename, lower, lowest_left, names_left, tokens_left, names_with, tokens_with}
use Rattle.rules.specs.Packets.{Holdings, at_first, left_by, handle_of, live, range_of, without, Progress, Belongings, pass, pass_frame, take_packet}
use Rattle.rules.specs.declared.Entry.{Entry}
use Rattle.rules.specs.declared.Resource.{Resource}
use Rattle.rules.specs.declared.Record.{Record}
use Rattle.rules.specs.declared.Token.{Token}
use Rattle.rules.specs.declared.Shape.{Shape}
use Rattle.rules.specs.declared.SetScissor.{SetScissor}
use Rattle.rules.specs.declared.Refusal.{Refusal}
use Rattle.rules.specs.declared.Packet.{Packet}
use Rattle.rows.specs.Keys.{Once, once-nil, once-pushed, once-removed, lookup-nil, lookup-pushed-other, lookup-removed-other, length_removed}
use Rattle.rule_laws.specs.Created.{AsCreated}
use Rattle.promises_of_packets.specs.Effects.{created-by-any-name, Fresh, InRange, Imported}
use Rattle.promises_of_packets.proofs.Effects.{pass-or}
use Rattle.promises_of_packets.specs.Names.{none-not-found, found-place, in_found, moved, lookup-rename, length-rename, once-rename}
use Rattle.promises_of_packets.specs.SoundNames.{SoundNames, SoundTokens, no-tokens, bound-is}
use Rattle.promises_of_packets.proofs.SoundNames.{no_names, names-stored, tokens-stored, name-after-destroy, names-destroyed, tokens-destroyed-sound, BoundTo, sound-bound, names-imported, tokens-imported-sound, tokens-exported-sound, tokens-released-sound}
use Rattle.promises_of_packets.specs.Held.{Every, Inside, KeepsIfBroken, LiveTexture, OfAKind, SoundAfter, SoundBelongings, SoundHoldings, SoundProgress, SoundResources, TargetLives, Within, clip-kind, every-found, every-none, every-pushed, every-renamed, every_removed, fine-not-broken, held, place, sound, texture-moved, texture-same, texture-some}

-- ---- resources

-- no resources are sound
pub none-sound : SoundResources []
none-sound = record { few = omega arith; once = once-nil handle_of; some = lookup-nil handle_of 0; created = every-none AsCreated; names = no_names }

pub nothing-sound : SoundBelongings (record { resources = []; tokens = [] })
nothing-sound = record { resources = none-sound; tokens = no-tokens [] }

-- ---- the target

-- a submission begins with the device's resources and tokens, no record and no target
pub first-sound : (es : List Entry) (b : Belongings) → SoundBelongings b → SoundProgress es (at_first b)
first-sound es b s =
    record {
      holdings = record { resources = s.resources; few = omega arith; inside = every-none (Inside es); kinds = every-none OfAKind };
      target = λ some. absurd (some refl);
      tokens = s.tokens;
    }

-- and leaves what is sound
pub left-sound : (es : List Entry) (h : Progress) → SoundProgress es h → SoundBelongings (left_by h)
left-sound es h s = record { resources = s.holdings.resources; tokens = s.tokens }

-- ---- another lowest name is nothing to all this

module _ (old new : ℕ) (rs : List Resource) (few : length rs ≤ most) (once : Once handle_of rs) (some : lookup handle_of 0 rs ≡ none) (created : Every AsCreated rs) where
  renamed-sound : SoundNames (rename old new rs) → SoundResources (rename old new rs)
  renamed-sound n =
      record {
        few = rw (length-rename old new rs) few;
        once = once-rename old new rs once;
        some = lookup-rename old new 0 rs ∙ ap (in_found (moved old new)) some;
        created = every-renamed old new rs created;
        names = n;
      }

  pub left-or-renamed : (b : Bool) → SoundNames (pick b (rename old new rs) rs) → SoundResources (pick b (rename old new rs) rs)
  left-or-renamed true n = renamed-sound n
  left-or-renamed false n = record { few = few; once = once; some = some; created = created; names = n }

-- ---- kept by every packet

module _ (es : List Entry) (h : Progress) (s : SoundProgress es h) where
  resources-stored : (r : Resource) → Fresh (held es h s) r → SoundResources (pushed (held es h s).resources r)
  resources-stored r f =
      record {
        few = simp length-append (omega (arith, f.room));
        once = once-pushed handle_of (held es h s).resources r (sound es h s).resources.once f.unused;
        some = lookup-pushed-other handle_of 0 (held es h s).resources r f.some ∙ (sound es h s).resources.some;
        created = every-pushed AsCreated (held es h s).resources r (sound es h s).resources.created f.created;
        names = names-stored (held es h s).resources (sound es h s).resources.names r f.unused f.own;
      }

  stored-tokens : (r : Resource) → Fresh (held es h s) r → SoundTokens (pushed (held es h s).resources r) h.tokens
  stored-tokens r f = tokens-stored (held es h s).resources (sound es h s).resources.names r f.unused h.tokens s.tokens

  range_inside : (kind : ℕ) (r : Resource) (e : Entry) (from size : ℕ) → InRange es (held es h s) kind r e from size → Inside es (range_of kind r e from size)
  range_inside kind r e from size i _ = subst (Within (range_of kind r e from size)) (sym i.entry) (omega arith, omega (arith, i.inside))

  more-few : (c : Record) → length (held es h s).records < most → length (pushed (held es h s).records c) ≤ most
  more-few c f = simp length-append (omega arith)

  -- one record more
  records-more : (rs : List Resource) (c : Record) → SoundResources rs → length (held es h s).records < most → Inside es c → OfAKind c
      → SoundHoldings es (record { resources = rs; records = pushed (held es h s).records c })
  records-more rs c r room i k =
      record {
        resources = r;
        few = more-few c room;
        inside = every-pushed (Inside es) (held es h s).records c (sound es h s).inside i;
        kinds = every-pushed OfAKind (held es h s).records c (sound es h s).kinds k;
      }

  range-more : (rs : List Resource) (kind : ℕ) (r : Resource) (e : Entry) (from size : ℕ) → SoundResources rs → InRange es (held es h s) kind r e from size
      → SoundHoldings es (record { resources = rs; records = pushed (held es h s).records (range_of kind r e from size) })
  range-more rs kind r e from size ok i =
      records-more rs (range_of kind r e from size) ok i.room (range_inside kind r e from size i) (i.low, omega (arith, i.high))

  -- of a clipped rectangle nothing is asked but its kind
  clip-more : (t : Shape) (c : SetScissor) → length (held es h s).records < most
      → SoundHoldings es (record { resources = (held es h s).resources; records = pushed (held es h s).records (clip_of t c) })
  clip-more t c room =
      records-more (held es h s).resources (clip_of t c) (sound es h s).resources room (λ other. absurd (other (clip-kind t c)))
      (rw (clip-kind t c) (omega arith))

  module _ (k : ℕ) (r : Resource) (e : live k (held es h s) ≡ found r) where
    here : (place es h s k r e) < length (held es h s).resources
    here = found-place handle_of k (held es h s).resources r e

    resources-destroyed : SoundResources (names_left r (without k (held es h s)))
    resources-destroyed =
        left-or-renamed r.lowest (lowest_left r.lowest (without k (held es h s))) (without k (held es h s))
        (rw (length_removed (place es h s k r e) (held es h s).resources here) (omega (arith, (sound es h s).resources.few)))
        (once-removed handle_of (place es h s k r e) (held es h s).resources (sound es h s).resources.once here)
        (lookup-removed-other handle_of k 0 (place es h s k r e) (held es h s).resources (sound es h s).resources.once refl here
        (λ z. none-not-found r (sym (sound es h s).resources.some ∙ (ap (λ n. live n (held es h s)) z ∙ e)))
        ∙ (sound es h s).resources.some)
        (every_removed AsCreated (place es h s k r e) (held es h s).resources (sound es h s).resources.created)
        (shareable r.kind)
        (names-destroyed (held es h s).resources (sound es h s).resources.once (sound es h s).resources.some (sound es h s).resources.names k r e)

    destroyed-tokens : SoundTokens (names_left r (without k (held es h s))) (tokens_left r (without k (held es h s)) h.tokens)
    destroyed-tokens = tokens-destroyed-sound (held es h s).resources (sound es h s).resources.once (sound es h s).resources.some (sound es h s).resources.names k r e h.tokens s.tokens

  module _ (k token : ℕ) (r : Resource) (i : Imported h k token r) where
    its : BoundTo token h.tokens (held es h s).resources r
    its = sound-bound token h.tokens (held es h s).resources r s.tokens i.bound-to

    resources-imported : SoundResources (names_with k r (held es h s).resources)
    resources-imported =
        renamed-sound r.lowest (lower k r.lowest) (pushed (held es h s).resources (under k r))
        (simp length-append (omega (arith, i.room)))
        (once-pushed handle_of (held es h s).resources (under k r) (sound es h s).resources.once i.unused)
        (lookup-pushed-other handle_of 0 (held es h s).resources (under k r) i.some ∙ (sound es h s).resources.some)
        (every-pushed AsCreated (held es h s).resources (under k r) (sound es h s).resources.created (created-by-any-name k r.lowest r (every-found AsCreated handle_of r.lowest (held es h s).resources r its.lowest (sound es h s).resources.created)))
        (names-imported (held es h s).resources (sound es h s).resources.names k i.unused r its.lowest its.shape)

    imported-tokens : SoundTokens (names_with k r (held es h s).resources) (tokens_with k r h.tokens)
    imported-tokens =
        tokens-imported-sound (held es h s).resources (sound es h s).resources.names k i.unused r its.lowest its.shape (sound es h s).resources.some h.tokens s.tokens

  -- ---- the target: a create makes no handle anew that is live, and a destroy of the target's handle ends it

  target-stored : (r : Resource) (cs : List Record) → Fresh (held es h s) r → TargetLives (record { holdings = record { resources = pushed (held es h s).resources r; records = cs }; target = h.target; tokens = h.tokens })
  target-stored r cs f some =
      let l : LiveTexture h.target (held es h s) = s.target some in
      let other : r.handle ≡ h.target → ⊥ = λ z. (texture-some h.target (held es h s) l.0 l.1).1 (ap (λ n. live n (held es h s)) (sym z) ∙ f.unused) in
      (l.0, texture-same h.target _ (held es h s) (lookup-pushed-other handle_of h.target (held es h s).resources r other) ∙ l.1)

  target-destroyed : (k : ℕ) (r : Resource) (ts : List Token) → live k (held es h s) ≡ found r
      → TargetLives (record { holdings = record { resources = names_left r (without k (held es h s)); records = (held es h s).records }; target = pick (eqb k h.target) 0 h.target; tokens = ts })
  target-destroyed k r ts e = by_test (eqb k h.target) refl
    where
      by_test : (b : Bool) → eqb k h.target ≡ b
          → TargetLives (record { holdings = record { resources = names_left r (without k (held es h s)); records = (held es h s).records }; target = pick b 0 h.target; tokens = ts })
      by_test true t some = absurd (some refl)
      by_test false t some =
          let l : LiveTexture h.target (held es h s) = s.target some in
          let same : lookup handle_of h.target (without k (held es h s)) ≡ live h.target (held es h s) =
          lookup-removed-other handle_of k h.target (index_of handle_of k (held es h s).resources) (held es h s).resources (sound es h s).resources.once refl
          (found-place handle_of k (held es h s).resources r e) (λ z. eqb-false k h.target t (sym z)) in
          let after = name-after-destroy (held es h s).resources (sound es h s).resources.once (sound es h s).resources.some (sound es h s).resources.names k r e h.target in
          (l.0, texture-moved h.target _ _ _ (held es h s) (after ∙ ap (in_found (moved r.lowest (lowest_left r.lowest (without k (held es h s))))) same) ∙ l.1)

  target-imported : (k token : ℕ) (r : Resource) (ts : List Token) → Imported h k token r
      → TargetLives (record { holdings = record { resources = names_with k r (held es h s).resources; records = (held es h s).records }; target = h.target; tokens = ts })
  target-imported k token r ts i some =
      let l : LiveTexture h.target (held es h s) = s.target some in
      let other : k ≡ h.target → ⊥ = λ z. (texture-some h.target (held es h s) l.0 l.1).1 (ap (λ n. live n (held es h s)) (sym z) ∙ i.unused) in
      let same : lookup handle_of h.target (pushed (held es h s).resources (under k r)) ≡ live h.target (held es h s) = lookup-pushed-other handle_of h.target (held es h s).resources (under k r) other in
      let after = lookup-rename r.lowest (lower k r.lowest) h.target (pushed (held es h s).resources (under k r)) in
      (l.0, texture-moved h.target _ _ _ (held es h s) (after ∙ ap (in_found (moved r.lowest (lower k r.lowest))) same) ∙ l.1)

  -- and one record more is nothing to it
  target-goes-on : (g : Holdings) (ts : List Token) → g.resources ≡ (held es h s).resources → TargetLives (record { holdings = g; target = h.target; tokens = ts })
  target-goes-on g ts e some =
      let l : LiveTexture h.target (held es h s) = s.target some in
      (l.0, texture-same h.target g (held es h s) (ap (lookup handle_of h.target) e) ∙ l.1)

  -- whatever the packet
  pub pass-sound : (p : Packet) → SoundProgress es (pass es h p).held
  pass-sound =
      pass-or (SoundAfter es h s) es h (λ r. s) s
      (λ r f. record {
        holdings = record { resources = resources-stored r f; few = (sound es h s).few; inside = (sound es h s).inside; kinds = (sound es h s).kinds };
        target = target-stored r _ f;
        tokens = stored-tokens r f;
      })
      (λ r e f i. record { holdings = range-more _ _ r e _ _ (resources-stored r f) i; target = target-stored r _ f; tokens = stored-tokens r f })
      (λ k r e. record {
        holdings = record { resources = resources-destroyed k r e; few = (sound es h s).few; inside = (sound es h s).inside; kinds = (sound es h s).kinds };
        target = target-destroyed k r h.tokens e;
        tokens = destroyed-tokens k r e;
      })
      (λ kind r e from size i. record { holdings = range-more _ kind r e from size (sound es h s).resources i; target = target-goes-on _ h.tokens refl; tokens = s.tokens })
      (λ k t e. record { holdings = (sound es h s); target = λ some. (t, e); tokens = s.tokens })
      (λ t c k. record { holdings = clip-more t c k.room; target = target-goes-on _ h.tokens refl; tokens = s.tokens })
      (λ k token r e. record {
        holdings = (sound es h s);
        target = s.target;
        tokens =
            tokens-exported-sound (held es h s).resources (sound es h s).resources.names h.tokens s.tokens k r e.named e.shape token e.some e.room;
      })
      (λ k token r i. record {
        holdings = record { resources = resources-imported k token r i; few = (sound es h s).few; inside = (sound es h s).inside; kinds = (sound es h s).kinds };
        target = target-imported k token r h.tokens i;
        tokens = imported-tokens k token r i;
      })
      (λ token r e. record {
        holdings = (sound es h s);
        target = s.target;
        tokens = let b = bound-is token h.tokens (held es h s).resources r e in tokens-released-sound (held es h s).resources h.tokens s.tokens token b.0 b.1;
      })

  -- and whatever the bytes left of a stream begin with
  pub take-sound : (b : List ℕ) → SoundProgress es (take_packet es h b).held
  unfolding take_packet
  take-sound b = by_frame (frame_of b)
    where
      by_frame : (f : Frame) → SoundProgress es (pass_frame es h b f).held
      by_frame (Ok (op, size)) = pass-sound (packet_of op (take size b))
      by_frame (Err r) = s

-- ---- a packet that is refused changes neither resources nor records, and leaves the target and the tokens

pub refused-packet-keeps-progress : (es : List Entry) (h : Progress) (p : Packet) → KeepsIfBroken h (pass es h p)
refused-packet-keeps-progress es h =
    pass-or (KeepsIfBroken h) es h (λ r n e. refl) (λ r e. refl) (λ _ _ r e. absurd (fine-not-broken r e)) (λ _ _ _ _ r e. absurd (fine-not-broken r e)) (λ _ _ _ r e. absurd (fine-not-broken r e))
    (λ _ _ _ _ _ _ r e. absurd (fine-not-broken r e)) (λ _ _ _ r e. absurd (fine-not-broken r e)) (λ _ _ _ r e. absurd (fine-not-broken r e)) (λ _ _ _ _ r e. absurd (fine-not-broken r e))
    (λ _ _ _ _ r e. absurd (fine-not-broken r e)) (λ _ _ _ r e. absurd (fine-not-broken r e))

-- the same of the packet that some bytes begin with
pub refused-keeps-progress : (es : List Entry) (h : Progress) (b : List ℕ) → KeepsIfBroken h (take_packet es h b)
unfolding take_packet
refused-keeps-progress es h b = by_frame (frame_of b)
  where
    by_frame : (f : Frame) → KeepsIfBroken h (pass_frame es h b f)
    by_frame (Ok (op, size)) = refused-packet-keeps-progress es h (packet_of op (take size b))
    by_frame (Err r) = λ n e. refl
