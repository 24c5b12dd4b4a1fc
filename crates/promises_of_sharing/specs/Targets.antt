-- Wish 7: "The target is a live texture, else 18; it lasts until the submission ends or that handle is destroyed." What each packet does to
-- it, what a scissor wants of it, and that it names a live texture for as long as it lasts. Assumes nothing.
use Rattle.std.proofs.Math.Path.{◌≡◌, refl}
use Rattle.std.proofs.Common.{sym, subst, arith}
use Rattle.std.specs.Prelude.{Bool, List, [], ◌∷◌, ℕ, ◌≤◌, ◌<◌, ltb, eqb, length, Err, Ok}
use Rattle.std.proofs.Math.Bool.{true, false}
use borrow.Author.Tests.{eq-eqb, ne_eqb, le-leb, lt-leb}
use Rattle.machine.specs.Machine.{pick}
use Rattle.rules.specs.Numbers.{most}
use Rattle.rules.specs.Lists.Found.{none, found}
use Rattle.rules.specs.Judging.{Verdict}
use Rattle.rules.specs.Layouts.{stream_header_size, packet_header_size}
use Rattle.rules.specs.Table.{take_entry}
use Rattle.rules.specs.Stream.{frame_of, size_of, left, Frame}
use Rattle.rules.specs.StatePackets.{bad_sides}
use Rattle.rules.specs.Packets.{Outcome, at_first, live_texture, on_target_packet, on_scissor_packet, apply, Progress, if-fine, target_after, pass, pass_frame, take_packet, Belongings, tokens_after}
use Rattle.rules.specs.State.{Work, World}
use Rattle.rules.specs.State.Work.{resting, entries, packets, waiting}
use Rattle.rules.specs.Steps.{packets_at, entries_at}
use Rattle.rules.specs.declared.Entry.{Entry}
use Rattle.rules.specs.declared.Shape.{Shape}
use Rattle.rules.specs.declared.SetTarget.{SetTarget}
use Rattle.rules.specs.declared.SetScissor.{SetScissor}
use Rattle.rules.specs.declared.DestroyResource.{DestroyResource}
use Rattle.rules.specs.declared.Job.{Job}
use Rattle.rules.specs.declared.Stream.{Stream}
use Rattle.rules.specs.declared.Opened.{Opened}
use Rattle.rules.specs.declared.Packet.{Packet}
use Rattle.rules.specs.declared.Packet.TheVariants.{Buffer, Texture, Destroy, Dirty, Copy, Target, Viewport, Scissor, Clear, Export, Import, Release, NotANumber, Unknown}
use Rattle.rules.specs.declared.Refusal.TheVariants.{BadHandle, TooMany, BadState}
use Rattle.stream_packets.specs.Framing.{frame-sound}
use Rattle.promises_of_packets.specs.Effects.{target-or}
use Rattle.promises_of_packets.specs.Held.{Every, LiveTexture}
use Rattle.promises_of_units.specs.Units.{Next}

-- ---- set

-- "The target is a live texture": one that is accepted names one, and is the target from then on; "else 18", and nothing changes
module _ (es : List Entry) (h : Progress) (c : SetTarget) where
  pub target-is-set : (s : Shape) → live_texture c.handle h.holdings ≡ found s
      → pass es h (Target c) ≡ record { verdict = Ok tt; held = record { holdings = h.holdings; target = c.handle; tokens = h.tokens } }
  unfolding pass apply on_target_packet target_after tokens_after
  target-is-set s e = rw e

  pub target-is-refused : live_texture c.handle h.holdings ≡ none → pass es h (Target c) ≡ record { verdict = Err BadHandle; held = h }
  unfolding pass apply on_target_packet target_after tokens_after
  target-is-refused e = rw e

  pub accepted-target-is-live : (pass es h (Target c)).verdict ≡ Ok tt → LiveTexture c.handle h.holdings
  unfolding pass apply
  accepted-target-is-live =
      target-or (λ (o : Outcome). o.verdict ≡ Ok tt → LiveTexture c.handle h.holdings) h.holdings
      (λ r e. absurd (let z : ◌≡◌ {A = ℕ} 0 1 = cc in omega arith)) c (λ s e _. (s, e))

-- ---- kept, and ended

module _ (es : List Entry) (h : Progress) where
  -- a packet that is neither a target nor a destroy leaves it, accepted or refused: so making a handle leaves it too
  pub other-packets-keep-the-target : (p : Packet) → ((c : SetTarget) → p ≡ Target c → ⊥) → ((c : DestroyResource) → p ≡ Destroy c → ⊥)
      → (pass es h p).held.target ≡ h.target
  unfolding pass target_after tokens_after
  other-packets-keep-the-target (Buffer c) t d = refl
  other-packets-keep-the-target (Texture c) t d = refl
  other-packets-keep-the-target (Destroy c) t d = absurd (d c refl)
  other-packets-keep-the-target (Dirty c) t d = refl
  other-packets-keep-the-target (Copy c) t d = refl
  other-packets-keep-the-target (Target c) t d = absurd (t c refl)
  other-packets-keep-the-target (Viewport v) t d = refl
  other-packets-keep-the-target (Scissor c) t d = refl
  other-packets-keep-the-target (Clear c) t d = refl
  other-packets-keep-the-target (Export c) t d = refl
  other-packets-keep-the-target (Import c) t d = refl
  other-packets-keep-the-target (Release c) t d = refl
  other-packets-keep-the-target NotANumber t d = refl
  other-packets-keep-the-target Unknown t d = refl

  module _ (c : DestroyResource) where
    -- "until .. that handle is destroyed"
    pub destroyed-ends-the-target : (pass es h (Destroy c)).verdict ≡ Ok tt → c.handle ≡ h.target → (pass es h (Destroy c)).held.target ≡ 0
    unfolding pass target_after tokens_after
    destroyed-ends-the-target e same = rw (e, eq-eqb c.handle h.target same)

    pub another-destroyed-keeps-the-target : (c.handle ≡ h.target → ⊥) → (pass es h (Destroy c)).held.target ≡ h.target
    unfolding pass target_after tokens_after
    another-destroyed-keeps-the-target other = by-verdict (apply es h.target h.tokens h.holdings (Destroy c)).verdict
      where
        by-verdict : (v : Verdict) → if-fine v (pick (eqb c.handle h.target) 0 h.target) h.target ≡ h.target
        by-verdict (Ok _) = rw (ne_eqb c.handle h.target other)
        by-verdict (Err r) = refl

  -- where there is none, there is none after it, unless it is a target packet
  none-stays-none : (p : Packet) → ((c : SetTarget) → p ≡ Target c → ⊥) → h.target ≡ 0 → (pass es h p).held.target ≡ 0
  unfolding pass target_after tokens_after
  none-stays-none (Buffer c) t z = z
  none-stays-none (Texture c) t z = z
  none-stays-none (Destroy c) t z = by-verdict (apply es h.target h.tokens h.holdings (Destroy c)).verdict (eqb c.handle h.target)
    where
      by-verdict : (v : Verdict) (b : Bool) → if-fine v (pick b 0 h.target) h.target ≡ 0
      by-verdict (Ok _) true = refl
      by-verdict (Ok _) false = z
      by-verdict (Err r) b = z
  none-stays-none (Dirty c) t z = z
  none-stays-none (Copy c) t z = z
  none-stays-none (Target c) t z = absurd (t c refl)
  none-stays-none (Viewport v) t z = z
  none-stays-none (Scissor c) t z = z
  none-stays-none (Clear c) t z = z
  none-stays-none (Export c) t z = z
  none-stays-none (Import c) t z = z
  none-stays-none (Release c) t z = z
  none-stays-none NotANumber t z = z
  none-stays-none Unknown t z = z

-- what is held after several packets
unfoldable pub held_after : List Entry → Progress → List Packet → Progress
held_after es h [] = h
held_after es h (p ∷ ps) = held_after es (pass es h p).held ps

-- once it has ended, no other packet brings it back: a create of its handle does not either
pub ended-target-stays-ended : (es : List Entry) (h : Progress) (ps : List Packet) → Every (λ (p : Packet). (c : SetTarget) → p ≡ Target c → ⊥) ps
    → h.target ≡ 0 → (held_after es h ps).target ≡ 0
unfolding held_after Every
ended-target-stays-ended es h [] k z = z
ended-target-stays-ended es h (p ∷ ps) k z = ended-target-stays-ended es (pass es h p).held ps k.1 (none-stays-none es h p k.0 z)

-- ---- what a scissor wants

module _ (es : List Entry) (h : Progress) (c : SetScissor) where
  -- "scissor without a target": 30
  pub scissor-without-a-target : h.target ≡ 0 → pass es h (Scissor c) ≡ record { verdict = Err BadState; held = h }
  unfolding pass apply on_scissor_packet live_texture target_after tokens_after
  scissor-without-a-target z = rw z

  module _ (s : Shape) (e : live_texture h.target h.holdings ≡ found s) where
    -- "scissor sides negative": 30
    pub scissor-with-negative-sides : bad_sides c ≡ true → pass es h (Scissor c) ≡ record { verdict = Err BadState; held = h }
    unfolding pass apply on_scissor_packet target_after tokens_after
    scissor-with-negative-sides b = rw (e, b)

    -- its record "counts toward the 64": 19. "Order: 18, 30, 19"
    pub scissor-past-the-last-record : bad_sides c ≡ false → most ≤ length h.holdings.records → pass es h (Scissor c) ≡ record { verdict = Err TooMany; held = h }
    unfolding pass apply on_scissor_packet target_after tokens_after
    scissor-past-the-last-record b f = rw (e, b, le-leb most (length h.holdings.records) f)

    pub scissor-is-accepted : bad_sides c ≡ false → length h.holdings.records < most → (pass es h (Scissor c)).verdict ≡ Ok tt
    unfolding pass apply on_scissor_packet target_after tokens_after
    scissor-is-accepted b f = rw (e, b, lt-leb most (length h.holdings.records) f)

-- ---- of any device that was made and called

-- the first packet stands at 24
abbrev pub BeginsWithNone : Work → Type 0
BeginsWithNone resting = 0 ≤ 0
BeginsWithNone (entries o kept) = 0 ≤ 0
BeginsWithNone (packets j t at es h) = (stream_header_size ≤ at) × (at ≡ stream_header_size → h.target ≡ 0)
BeginsWithNone (waiting j es h) = 0 ≤ 0

packets-begin : (j : Job) (t : Stream) (at : ℕ) (es : List Entry) (h : Progress) → stream_header_size ≤ at → (at ≡ stream_header_size → h.target ≡ 0) → BeginsWithNone (packets_at j t at es h)
packets-begin j t at es h past first = by_test (ltb at t.size)
  where
    by_test : (b : Bool) → BeginsWithNone (pick b (packets j t at es h) (waiting j es h))
    by_test true = (past, first)
    by_test false = omega arith

entries-begin : (o : Opened) (kept : List Entry) (owned : Belongings) → BeginsWithNone (entries_at o kept owned)
entries-begin o kept owned = by_test (ltb (length kept) o.table.count)
  where
    by_test : (b : Bool) → BeginsWithNone (pick b (entries o kept) (packets_at o.job o.stream stream_header_size kept (at_first owned)))
    by_test true = omega arith
    by_test false = packets-begin o.job o.stream stream_header_size kept (at_first owned) (omega arith) (λ _. refl)

-- a packet that is accepted has a header, so the next one stands behind it
goes_on : (es : List Entry) (h : Progress) (b : List ℕ) → (take_packet es h b).verdict ≡ Ok tt → packet_header_size ≤ size_of (frame_of b)
unfolding take_packet
goes_on es h b = by_frame (frame_of b) refl
  where
    by_frame : (f : Frame) → frame_of b ≡ f → (pass_frame es h b f).verdict ≡ Ok tt → packet_header_size ≤ size_of f
    by_frame (Ok (op, size)) e v = (frame-sound b op size e).header
    by_frame (Err r) e v = absurd (let z : ◌≡◌ {A = ℕ} 0 1 = cc in omega arith)

pub next-begins : (w : World) (k next : Work) → Next w k next → BeginsWithNone k → BeginsWithNone next
next-begins w resting next h b = subst BeginsWithNone (sym h.first) (entries-begin h.what [] w.state.belongings)
next-begins w (entries o kept) next h b = subst BeginsWithNone (sym h.1) (entries-begin o (take_entry w.mem o.table kept).kept w.state.belongings)
next-begins w (packets j t at es held) next h b =
    let more : packet_header_size ≤ size_of (frame_of (left w.mem t at)) = goes_on es held (left w.mem t at) h.0 in
    subst BeginsWithNone (sym h.1) (packets-begin j t _ es _ (omega (arith, b.0)) (λ z. absurd (omega (arith, b.0))))
next-begins w (waiting j es held) next h b = subst BeginsWithNone (sym h) b
