-- A stream packet by packet: the packet at a place, those behind it, and the walk to the one with an index. Assumes nothing.
use Rattle.std.specs.Prelude.{◌≡◌, Bool, true, false, not, List, [], ◌∷◌, ℕ, suc, ◌+◌, ◌-◌, ◌%◌, ◌≤◌, ◌<◌, ◌^◌, ltb, eqb, length, drop, Err, Ok, Result}
use Rattle.std.proofs.Math.Path.{refl, ap}
use Rattle.std.proofs.Common.{sym, ◌∙◌, ⊎_elim, rules, Fits, length-drop}
use Rattle.std.proofs.Math.Nat.{sub-zero}
use native.Mathlib.Omega.{arith}
use Rattle.std.specs.Int.{w64}
use Rattle.words.specs.Over.{below_or_not}
use Rattle.rules.specs.Judging.{rule, ◌▹◌}
use Rattle.rules.specs.Layouts.{word, stream_header_size, packet_header_size}
use Rattle.rules.specs.Lists.{Found, nth}
use Rattle.rules.specs.Lists.Found.{none, found}
use Rattle.rules.specs.Stream.{frame_of, frame_rules, framed, least_size, size_of, Frame}
use Rattle.rules.specs.Dump.{Listed, Dump, Ending, listed_at}
use Rattle.rules.specs.declared.Refusal.{Refusal}
use Rattle.rules.specs.declared.Packet.{Packet}
use Rattle.stream_packets.specs.Framing.{packet_read_at, was-whole, was-misframed, frame-sound}
use Rattle.stream_listing.specs.Walk.{listed_from, from-none, from-bad, from_on}
use Rattle.rules.specs.Difference.{broken_by, framed_at, packet_at, size_at, behind}
use Rattle.rules.specs.declared.Refusal.TheVariants.{BadPacket}

-- the packets of a stream from a place on, and how they end
abbrev pub packets_from : List ℕ → ℕ → List Listed
packets_from s at = (listed_from false s at).packets

abbrev pub ending_from : List ℕ → ℕ → Ending
ending_from s at = (listed_from false s at).ending

-- ---- size_at

module _ (s : List ℕ) (at : ℕ) (x : Result (ℕ × Packet) Refusal) (is : x ≡ packet_read_at (drop at s)) where
  pub size_none : (r : Refusal) → x ≡ Err r → 0 ≡ size_at s at
  size_none r e = rw (was-misframed (drop at s) x is r e)

  pub size-whole : (size : ℕ) (k : Packet) (long : ℕ) → x ≡ Ok (size, k) → long ≡ size → long ≡ size_at s at
  size-whole size k long e l = rw (was-whole (drop at s) x is size k e).frame l

pub ruleset sizing = (size_none, size-whole, rules)

-- ---- the packet at a place

-- a packet of this size
pub record PacketThere (s : List ℕ) (at size : ℕ) : Type 0 where
  pub opcode : ℕ
  pub is : packet_at s at ≡ found (listed_at at opcode size (drop at s))
  pub framed : frame_of (drop at s) ≡ Ok (opcode, size)
  pub inside : at + size ≤ length s
  pub some : 8 ≤ size

module _ (s : List ℕ) (at : ℕ) where
  by-none : (f : Frame) → frame_of (drop at s) ≡ f → size_of f ≡ 0 → packet_at s at ≡ none
  by-none (Ok (op, size)) e z = absurd (omega (arith, (frame-sound (drop at s) op size e).header))
  by-none (Err r) e z = rw e

  pub no-packet : size_at s at ≡ 0 → packet_at s at ≡ none
  no-packet z = by-none (frame_of (drop at s)) refl z

  by-some : (f : Frame) → frame_of (drop at s) ≡ f → (size_of f ≡ 0 → ⊥) → PacketThere s at (size_of f)
  by-some (Err r) e n = absurd (n refl)
  by-some (Ok (op, size)) e n =
      let i : size ≤ length s - at = rw length-drop at (frame-sound (drop at s) op size e).inside in
      let k : 8 ≤ size = (frame-sound (drop at s) op size e).header in
      record { opcode = op; is = rw e; framed = e; inside = omega arith; some = k }

  pub some-packet : (size : ℕ) → size ≡ size_at s at → (size ≡ 0 → ⊥) → PacketThere s at size
  some-packet size is n = rw is (by-some (frame_of (drop at s)) refl (λ z. n (is ∙ z)))

-- ---- those behind it

abbrev pub found_then : Found Listed → List Listed → List Listed
found_then none later = []
found_then (found p) later = p ∷ later

module _ (s : List ℕ) (at : ℕ) where
  by_frame : (f : Frame) → frame_of (drop at s) ≡ f → at < length s → packets_from s at ≡ found_then (framed_at f at (drop at s)) (packets_from s (at + size_of f))
  by_frame (Ok (op, size)) e here = ap (λ (d : Dump). d.packets) (from_on false s at here op size e refl)
  by_frame (Err r) e here = ap (λ (d : Dump). d.packets) (from-bad false s at here r e)

  by_end : (f : Frame) → frame_of (drop at s) ≡ f → length s ≤ at → packets_from s at ≡ found_then (framed_at f at (drop at s)) (packets_from s (at + size_of f))
  by_end (Ok (op, size)) e h =
      let i : size ≤ length s - at = rw length-drop at (frame-sound (drop at s) op size e).inside in
      absurd (omega (arith, (frame-sound (drop at s) op size e).header))
  by_end (Err r) e h = ap (λ (d : Dump). d.packets) (from-none false s at h)

  pub packets-first : packets_from s at ≡ found_then (packet_at s at) (packets_from s (behind s at))
  packets-first = ⊎_elim (λ h. by_frame (frame_of (drop at s)) refl h) (λ h. by_end (frame_of (drop at s)) refl h) (below_or_not at (length s))

  first_found : (f : Found Listed) (later : List Listed) → nth (found_then f later) 0 ≡ f
  unfolding nth
  first_found none later = refl
  first_found (found p) later = refl

  pub nth_here : nth (packets_from s at) 0 ≡ packet_at s at
  nth_here = ap (λ l. nth l 0) packets-first ∙ first_found (packet_at s at) (packets_from s (behind s at))

  none_found : (f : Found Listed) (later : List Listed) (i : ℕ) → f ≡ none → nth (found_then f later) i ≡ none
  unfolding nth
  none_found f later i e = rw e

  pub nth_none : size_at s at ≡ 0 → (i : ℕ) → nth (packets_from s at) i ≡ none
  nth_none z i = ap (λ l. nth l i) packets-first ∙ none_found (packet_at s at) (packets_from s (behind s at)) i (no-packet s at z)

  nth-behind : (f : Frame) → frame_of (drop at s) ≡ f → (i : ℕ) → nth (packets_from s at) (suc i) ≡ nth (packets_from s (at + size_of f)) i
  unfolding nth
  nth-behind (Ok (op, size)) e i = ap (λ l. nth l (suc i)) packets-first ∙ rw e
  nth-behind (Err r) e i =
      let z : size_at s at ≡ 0 = rw e in
      let same : at + 0 ≡ at = omega arith in
      nth_none z (suc i) ∙ (sym (nth_none z i) ∙ ap (λ n. nth (packets_from s n) i) (sym same))

  pub nth_on : (i : ℕ) → nth (packets_from s at) (suc i) ≡ nth (packets_from s (behind s at)) i
  nth_on i = nth-behind (frame_of (drop at s)) refl i

-- ---- place_of

module _ (s : List ℕ) (index : ℕ) where
  -- the packet sought is further on by the number that the count is short of the index
  pub record Left (at i : ℕ) : Type 0 where
    pub same : nth (packets_from s stream_header_size) index ≡ nth (packets_from s at) (index - i)
    pub count : i ≤ index

  pub left_start : Left stream_header_size 0
  left_start = record { same = rw sub-zero; count = omega arith }

  module _ (at i : ℕ) (w : Left at i) where
    pub place_here : index ≤ i → packet_at s at ≡ nth (packets_from s stream_header_size) index
    place_here h =
        let z : index - i ≡ 0 = omega arith in
        sym (w.same ∙ (ap (λ n. nth (packets_from s at) n) z ∙ nth_here s at))

    module _ (size : ℕ) (is : size ≡ size_at s at) where
      pub place_none : size ≡ 0 → packet_at s at ≡ nth (packets_from s stream_header_size) index
      place_none z = no-packet s at (sym is ∙ z) ∙ sym (w.same ∙ nth_none s at (sym is ∙ z) (index - i))

      module _ (n : size ≡ 0 → ⊥) where
        pub place-fits : length s < 2 ^ 64 → Fits w64 (at + size)
        place-fits h = record { fits = omega (arith, (some-packet s at size is n).inside) }

        pub place_on : i < index → Left (at + size) (i + 1)
        place_on h =
            let z : index - i ≡ suc (index - (i + 1)) = omega arith in
            record {
              same = w.same ∙ (ap (λ k. nth (packets_from s at) k) z ∙ (nth_on s at (index - (i + 1)) ∙ ap (λ k. nth (packets_from s (at + k)) (index - (i + 1))) (sym is)));
              count = omega arith;
            }

pub ruleset placing = (left_start, place_here, place_none, place-fits, place_on, rules)

-- ---- packets_fault

module _ (op size : ℕ) (r : Refusal) where
  broken-in : (a b c d e : Bool)
      → framed (rule BadPacket a ▹ rule BadPacket b ▹ rule BadPacket c ▹ rule BadPacket d ▹ rule BadPacket e) op size ≡ Err r → r ≡ BadPacket
  broken-in true b c d e h = cc
  broken-in false true c d e h = cc
  broken-in false false true d e h = cc
  broken-in false false false true e h = cc
  broken-in false false false false true h = cc
  broken-in false false false false false h = absurd (let z : ◌≡◌ {A = ℕ} 0 1 = cc in omega arith)

-- a packet breaks no rule but 17
pub misframed-code : (b : List ℕ) (r : Refusal) → frame_of b ≡ Err r → r ≡ BadPacket
unfolding frame_of frame_rules
misframed-code b r e =
    broken-in (word b 0) (word b 4) r (ltb (length b) packet_header_size) (ltb (word b 4) packet_header_size) (not (eqb (word b 4 % 4) 0)) (ltb (length b) (word b 4))
    (ltb (word b 4) (least_size (word b 0))) e

module _ (s : List ℕ) (at : ℕ) (w : broken_by (ending_from s stream_header_size) ≡ broken_by (ending_from s at)) where
  pub fault-none : length s ≤ at → Ok tt ≡ broken_by (ending_from s stream_header_size)
  fault-none h = sym (w ∙ ap (λ (d : Dump). broken_by d.ending) (from-none false s at h))

  module _ (here : at < length s) (size : ℕ) (is : size ≡ size_at s at) where
    by-fault : (f : Frame) → frame_of (drop at s) ≡ f → size_of f ≡ 0 → Err BadPacket ≡ broken_by (ending_from s at)
    by-fault (Ok (op, n)) e z = absurd (omega (arith, (frame-sound (drop at s) op n e).header))
    by-fault (Err r) e z = sym (ap (λ (d : Dump). broken_by d.ending) (from-bad false s at here r e) ∙ ap Err (misframed-code (drop at s) r e))

    pub fault-here : size ≡ 0 → Err BadPacket ≡ broken_by (ending_from s stream_header_size)
    fault-here z = by-fault (frame_of (drop at s)) refl (sym is ∙ z) ∙ sym w

    module _ (n : size ≡ 0 → ⊥) where
      there : PacketThere s at size
      there = some-packet s at size is n

      pub fault-fits : length s < 2 ^ 64 → Fits w64 (at + size)
      fault-fits h = record { fits = omega (arith, there.inside) }

      pub fault-less : length s - (at + size) < length s - at
      fault-less = omega (arith, there.inside, there.some)

      pub fault-on : broken_by (ending_from s stream_header_size) ≡ broken_by (ending_from s (at + size))
      fault-on = w ∙ ap (λ (d : Dump). broken_by d.ending) (from_on false s at here there.opcode size there.framed refl)

pub ruleset faulting = (fault-none, fault-here, fault-fits, fault-less, fault-on, rules)
