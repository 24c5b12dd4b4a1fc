-- A packet of the stream: what the reader asks for, and what a whole packet is known by. Assumes nothing.
use Rattle.std.specs.Prelude.{◌≡◌, Bool, true, not, ◌||◌, List, ℕ, ◌+◌, ◌-◌, ◌/◌, ◌%◌, ◌≤◌, ◌<◌, eqb, length, take, drop, Err, None, Ok, Option, Result, Some}
use Rattle.std.proofs.Math.Path.{refl}
use Rattle.std.proofs.Common.{sym, ap, ◌∙◌, arith, rules, length-drop, length-take-le}
use Rattle.std.proofs.Math.Bool.{false}
use borrow.Author.Tests.{eq-eqb, ne_eqb, lt-ltb, le-ltb, ltb-false, eqb-true, not-false}
use Rattle.std.proofs.Math.Dec.{ltb}
use Rattle.std.proofs.Math.Seq.{drop-drop}
use Rattle.stream_opcodes.specs.Opcodes.{reading, none-known, known-none, says_nothing, part-short, part_says}
use Rattle.rule_laws.specs.Fine.{all-kept}
use Rattle.rules.specs.Judging.{rule, ◌▹◌, Verdict}
use Rattle.rules.specs.Layouts.{word, packet_header_size}
use Rattle.rules.specs.Lists.Found.{none}
use Rattle.rules.specs.Stream.{known, least_size, frame_rules, framed, frame_of, packet_of, Frame}
use Rattle.rules.specs.declared.Refusal.{Refusal}
use Rattle.rules.specs.declared.Packet.{Packet}
use Rattle.rules.specs.declared.Packet.TheVariants.{Unknown}
use Rattle.rules.specs.declared.Refusal.TheVariants.{BadPacket}

-- the frame of a packet whose header is there, from the number of bytes left and what the header says
unfoldable pub frame_by : ℕ → ℕ → ℕ → Frame
frame_by left op size =
    framed
    (rule BadPacket (ltb size packet_header_size)
    ▹ rule BadPacket (not (eqb (size % 4) 0))
    ▹ rule BadPacket (ltb left size)
    ▹ rule BadPacket (ltb size (least_size op)))
    op
    size

-- ---- misframed

-- a size that no packet has, whatever its opcode, where so many bytes are left
unfoldable pub misframed : ℕ → ℕ → Bool
misframed left size = ltb left size || (ltb size packet_header_size || not (eqb (size % 4) 0))

module _ (left size long : ℕ) (same : long ≡ size) where
  pub past_end : left < long → true ≡ misframed left size
  unfolding misframed
  past_end h = rw (lt-ltb left size (omega arith))

  module _ (inside : long ≤ left) where
    pub small_size : long < packet_header_size → true ≡ misframed left size
    unfolding misframed
    small_size h = rw (le-ltb left size (omega arith), lt-ltb size packet_header_size (omega arith))

    pub odd-size : packet_header_size ≤ long → not (eqb (size % 4) 0) ≡ misframed left size
    unfolding misframed
    odd-size h = rw (le-ltb left size (omega arith), le-ltb size packet_header_size (omega arith))

pub ruleset judging_size = (past_end, small_size, odd-size, rules)

-- the frame, by that test and by the opcode's
module _ (left op size : ℕ) where
  by_tests : (a b c w : Bool) → b || (a || c) ≡ true
      → framed (rule BadPacket a ▹ rule BadPacket c ▹ rule BadPacket b ▹ rule BadPacket w) op size ≡ Err BadPacket
  by_tests true b c w h = refl
  by_tests false b true w h = refl
  by_tests false true false w h = refl
  by_tests false false false w h = absurd (let z : ◌≡◌ {A = ℕ} 0 1 = cc in omega arith)

  pub frame-bad : misframed left size ≡ true → frame_by left op size ≡ Err BadPacket
  unfolding misframed frame_by
  frame-bad h = by_tests (ltb size packet_header_size) (ltb left size) (not (eqb (size % 4) 0)) (ltb size (least_size op)) h

  by-none : (a b c w : Bool) → b || (a || c) ≡ false
      → framed (rule BadPacket a ▹ rule BadPacket c ▹ rule BadPacket b ▹ rule BadPacket w) op size ≡ framed (rule BadPacket w) op size
  by-none true true c w h = absurd (let z : ◌≡◌ {A = ℕ} 0 1 = cc in omega arith)
  by-none true false c w h = absurd (let z : ◌≡◌ {A = ℕ} 0 1 = cc in omega arith)
  by-none false true c w h = absurd (let z : ◌≡◌ {A = ℕ} 0 1 = cc in omega arith)
  by-none false false true w h = absurd (let z : ◌≡◌ {A = ℕ} 0 1 = cc in omega arith)
  by-none false false false w h = refl

  pub frame-rest : misframed left size ≡ false → frame_by left op size ≡ framed (rule BadPacket (ltb size (least_size op))) op size
  unfolding misframed frame_by
  frame-rest h = by-none (ltb size packet_header_size) (ltb left size) (not (eqb (size % 4) 0)) (ltb size (least_size op)) h

  inside_of : (b c : Bool) → b || c ≡ false → b ≡ false
  inside_of true c h = h
  inside_of false c h = refl

  pub frame-inside : misframed left size ≡ false → size ≤ left
  unfolding misframed
  frame-inside h = ltb-false left size (inside_of (ltb left size) _ h)

-- ---- the frame of a packet whose header is there

module _ (m : List ℕ) (at : ℕ) where
  few : length m - at < packet_header_size → frame_of (drop at m) ≡ Err BadPacket
  unfolding frame_of frame_rules
  few h = rw (length-drop, lt-ltb (length m - at) packet_header_size h)

  frame-read : (op size : ℕ) → packet_header_size ≤ length m - at → op ≡ word m at → size ≡ word m (at + 4) → frame_of (drop at m) ≡ frame_by (length m - at) op size
  unfolding frame_of frame_rules frame_by
  frame-read op size h po ps = rw (length-drop, le-ltb (length m - at) packet_header_size h, drop-drop, ps, po)

-- ---- what a whole packet is known by

framed-fine : (v : Verdict) (o s op size : ℕ) → framed v o s ≡ Ok (op, size) → (v ≡ Ok tt) × ((o ≡ op) × (s ≡ size))
framed-fine (Ok _) o s op size e = let same : ◌≡◌ {A = ℕ × ℕ} (o, s) (op, size) = cc in (refl, (ap (λ p. p.0) same, ap (λ p. p.1) same))
framed-fine (Err r) o s op size e = let z : ◌≡◌ {A = ℕ} 0 1 = cc in absurd (omega arith)

pub record FrameFits (b : List ℕ) (op size : ℕ) : Type 0 where
  pub opcode : op ≡ word b 0
  pub stated : size ≡ word b 4
  pub header : packet_header_size ≤ size
  pub inside : size ≤ length b
  pub fours : size % 4 ≡ 0
  -- "A known packet is good from its table size upward"
  pub known : least_size op ≤ size

-- a whole packet has a header, ends within the bytes left, and has room for the fields of its opcode
pub frame-sound : (b : List ℕ) (op size : ℕ) → frame_of b ≡ Ok (op, size) → FrameFits b op size
unfolding frame_of frame_rules
frame-sound b op size e =
    let f = framed-fine (frame_rules b) (word b 0) (word b 4) op size e in
    let k =
    all-kept BadPacket (ltb (length b) packet_header_size) (ltb (word b 4) packet_header_size) (not (eqb (word b 4 % 4) 0)) (ltb (length b) (word b 4))
    (ltb (word b 4) (least_size (word b 0))) f.0 in
    let head : packet_header_size ≤ word b 4 = ltb-false (word b 4) packet_header_size k.1.0 in
    let end : word b 4 ≤ length b = ltb-false (length b) (word b 4) k.1.1.1.0 in
    let four : word b 4 % 4 ≡ 0 = eqb-true (word b 4 % 4) 0 (not-false _ k.1.1.0) in
    let least : least_size (word b 0) ≤ word b 4 = ltb-false (word b 4) (least_size (word b 0)) k.1.1.1.1 in
    record {
      opcode = sym f.1.0;
      stated = sym f.1.1;
      header = rw f.1.1 at head;
      inside = rw f.1.1 at end;
      fours = rw f.1.1 at four;
      known = rw (f.1.0, f.1.1) at least;
    }

-- ---- packet_part, packet_at

pub part-is : (at size : ℕ) (m : List ℕ) → take (at + size - at) (drop at m) ≡ take size (drop at m)
part-is at size m = let n : at + size - at ≡ size = omega arith in rw n

-- what the packet that some bytes begin with says
abbrev pub packet_in : Frame → List ℕ → Result (ℕ × Packet) Refusal
packet_in (Ok (op, size)) b = Ok (size, (packet_of op (take size b)))
packet_in (Err r) b = Err r

unfoldable pub packet_read_at : List ℕ → Result (ℕ × Packet) Refusal
packet_read_at b = packet_in (frame_of b) b

module _ (m : List ℕ) (at : ℕ) where
  no-packet : (r : Refusal) → frame_of (drop at m) ≡ Err r → Err r ≡ packet_read_at (drop at m)
  unfolding packet_read_at
  no-packet r h = rw h

  pub short-stream : length m < packet_header_size → Err BadPacket ≡ packet_read_at (drop at m)
  short-stream h = no-packet BadPacket (few m at (omega arith))

  module _ (long : packet_header_size ≤ length m) where
    pub last-bytes : length m - packet_header_size < at → Err BadPacket ≡ packet_read_at (drop at m)
    last-bytes h = no-packet BadPacket (few m at (omega arith))

    module _ (here : at ≤ length m - packet_header_size) (op size : ℕ) (po : op ≡ word m at) (ps : size ≡ word m (at + 4)) (bad : Bool)
        (is : bad ≡ misframed (length m - at) size) where
      header : frame_of (drop at m) ≡ frame_by (length m - at) op size
      header = frame-read m at op size (omega arith) po ps

      pub bad-size : bad ≡ true → Err BadPacket ≡ packet_read_at (drop at m)
      bad-size h = no-packet BadPacket (header ∙ frame-bad (length m - at) op size (sym is ∙ h))

      module _ (good : bad ≡ false) (room : ℕ) (same : room ≡ size) where
        inside : size ≤ length m - at
        inside = frame-inside (length m - at) op size (sym is ∙ good)

        pub part_room : at + room ≤ length m
        part_room = omega (arith, inside)

        module _ (p : List ℕ) (own : p ≡ take room (drop at m)) (x : Option Packet) (says : x ≡ reading op p) where
          long_as : length p ≡ size
          long_as = rw own (length-take-le room (drop at m) (rw length-drop (omega (arith, inside)))) ∙ same

          frame : frame_of (drop at m) ≡ framed (rule BadPacket (ltb size (least_size op))) op size
          frame = header ∙ frame-rest (length m - at) op size (sym is ∙ good)

          pub short-packet : x ≡ None → Err BadPacket ≡ packet_read_at (drop at m)
          short-packet h =
              let short : ltb size (least_size op) ≡ true = rw long_as at (part-short op p x says h) in
              no-packet BadPacket (rw short at frame)

          pub whole-packet : (k : Packet) → x ≡ Some k → Ok (size, k) ≡ packet_read_at (drop at m)
          unfolding packet_read_at
          whole-packet k h =
              let r : (ltb (length p) (least_size op) ≡ false) × (k ≡ packet_of op p) = part_says op p x says k h in
              let right : ltb size (least_size op) ≡ false = rw long_as at r.0 in
              let whole : frame_of (drop at m) ≡ Ok (op, size) = rw right at frame in
              rw (whole, r.1, own, same)

pub ruleset packet_reading = (part-is, short-stream, last-bytes, bad-size, part_room, short-packet, whole-packet, rules)

-- ---- what a packet that was read says of the frame

module _ (b : List ℕ) where
  pub record WasWhole (size : ℕ) (k : Packet) : Type 0 where
    pub opcode : ℕ
    pub frame : frame_of b ≡ Ok (opcode, size)
    pub says : k ≡ packet_of opcode (take size b)

  by_whole : (f : Frame) → frame_of b ≡ f → (size : ℕ) (k : Packet) → packet_in f b ≡ Ok (size, k) → WasWhole size k
  by_whole (Ok (op, n)) e size k h =
      let both : ◌≡◌ {A = ℕ × Packet} (n, packet_of op (take n b)) (size, k) = cc in
      let same : n ≡ size = ap (λ p. p.0) both in
      let is : packet_of op (take n b) ≡ k = ap (λ p. p.1) both in
      record { opcode = op; frame = rw same at e; says = rw same at (sym is) }
  by_whole (Err r) e size k h = absurd (let z : ◌≡◌ {A = ℕ} 0 1 = cc in omega arith)

  pub was-whole : (x : Result (ℕ × Packet) Refusal) → x ≡ packet_read_at b → (size : ℕ) (k : Packet) → x ≡ Ok (size, k) → WasWhole size k
  unfolding packet_read_at
  was-whole x is size k e = by_whole (frame_of b) refl size k (sym is ∙ e)

  by-bad : (f : Frame) (r : Refusal) → packet_in f b ≡ Err r → f ≡ Err r
  by-bad (Ok (op, n)) r h = absurd (let z : ◌≡◌ {A = ℕ} 0 1 = cc in omega arith)
  by-bad (Err q) r h = let same : q ≡ r = cc in rw same

  pub was-misframed : (x : Result (ℕ × Packet) Refusal) → x ≡ packet_read_at b → (r : Refusal) → x ≡ Err r → frame_of b ≡ Err r
  unfolding packet_read_at
  was-misframed x is r e = by-bad (frame_of b) r (sym is ∙ e)

-- ---- may_be_known

-- one of the four blocks of eight that have all opcodes that we know
unfoldable pub in_blocks : ℕ → Bool
in_blocks op = eqb (op / 8) 32 || (eqb (op / 8) 128 || (eqb (op / 8) 192 || eqb (op / 8) 226))

module _ (op : ℕ) where
  in-none : (op / 8 ≡ 32 → ⊥) → (op / 8 ≡ 128 → ⊥) → (op / 8 ≡ 192 → ⊥) → (op / 8 ≡ 226 → ⊥) → false ≡ in_blocks op
  unfolding in_blocks
  in-none n₁ n₂ n₃ n₄ = rw (ne_eqb (op / 8) 32 n₁, ne_eqb (op / 8) 128 n₂, ne_eqb (op / 8) 192 n₃, ne_eqb (op / 8) 226 n₄)

  pub before-all : op < 256 → false ≡ in_blocks op
  before-all h = in-none (λ e. omega arith) (λ e. omega arith) (λ e. omega arith) (λ e. omega arith)

  pub behind-all : 1816 ≤ op → false ≡ in_blocks op
  behind-all h = in-none (λ e. omega arith) (λ e. omega arith) (λ e. omega arith) (λ e. omega arith)

  pub in-first : op / 8 ≡ 32 → true ≡ in_blocks op
  unfolding in_blocks
  in-first e = rw (eq-eqb (op / 8) 32 e)

  pub in-second : (op / 8 ≡ 32 → ⊥) → op / 8 ≡ 128 → true ≡ in_blocks op
  unfolding in_blocks
  in-second n e = rw (ne_eqb (op / 8) 32 n, eq-eqb (op / 8) 128 e)

  pub in-third : (op / 8 ≡ 32 → ⊥) → (op / 8 ≡ 128 → ⊥) → op / 8 ≡ 192 → true ≡ in_blocks op
  unfolding in_blocks
  in-third n k e = rw (ne_eqb (op / 8) 32 n, ne_eqb (op / 8) 128 k, eq-eqb (op / 8) 192 e)

  pub in-fourth : (op / 8 ≡ 32 → ⊥) → (op / 8 ≡ 128 → ⊥) → (op / 8 ≡ 192 → ⊥) → eqb (op / 8) 226 ≡ in_blocks op
  unfolding in_blocks
  in-fourth n k l = rw (ne_eqb (op / 8) 32 n, ne_eqb (op / 8) 128 k, ne_eqb (op / 8) 192 l)

pub ruleset finding_block = (before-all, behind-all, in-first, in-second, in-third, in-fourth, rules)

-- ---- unknown_size

-- a size that is not 0 is of a whole packet of an unknown opcode, smaller than the room
pub record Passed (b : List ℕ) (at room size : ℕ) : Type 0 where
  pub whole : (size ≡ 0 → ⊥) → frame_of (drop at b) ≡ Ok ((word b at), size)
  pub nothing : (size ≡ 0 → ⊥) → Unknown ≡ packet_of (word b at) (take size (drop at b))
  pub within : (size ≡ 0 → ⊥) → size < room

module _ (b : List ℕ) (at room : ℕ) where
  pub passes_none : Passed b at room 0
  passes_none = record { whole = λ n. absurd (n refl); nothing = λ n. absurd (n refl); within = λ n. absurd (n refl) }

  module _ (some : 0 < room) (inside : at + room ≤ length b - 7) (op size long : ℕ) (po : op ≡ word b at) (may : Bool) (tells : may ≡ in_blocks op) (other : may ≡ false) (ps : size ≡ word b (at + 4))
      (same : long ≡ size) (below : long < room) (head : packet_header_size ≤ long) (fours : size % 4 ≡ 0) where
    not-that : (k : ℕ) → in_blocks k ≡ true → op ≡ k → ⊥
    not-that k h e =
        let z : ◌≡◌ {A = Bool} true false = sym h ∙ (ap in_blocks (sym e) ∙ (sym tells ∙ other)) in
        let y : ◌≡◌ {A = ℕ} 0 1 = cc in omega arith

    none_of : (f : (k : ℕ) → in_blocks k ≡ true → op ≡ k → ⊥) → known op ≡ none
    unfolding in_blocks
    none_of f = none-known op (f _ refl) (f _ refl) (f _ refl) (f _ refl) (f _ refl) (f _ refl) (f _ refl) (f _ refl) (f _ refl) (f _ refl) (f _ refl) (f _ refl)

    pub passes : Passed b at room long
    unfolding misframed
    passes =
        let unknown : known op ≡ none = none_of not-that in
        let no-least : 0 ≡ least_size op = known-none op unknown in
        let fits : misframed (length b - at) size ≡ false = rw (le-ltb (length b - at) size (omega arith), le-ltb size packet_header_size (omega arith), eq-eqb (size % 4) 0 fours) in
        let is : frame_of (drop at b) ≡ framed (rule BadPacket (ltb size (least_size op))) op size = frame-read b at op size (omega arith) po ps ∙ frame-rest (length b - at) op size fits in
        record {
          whole = λ _. is ∙ rw (← no-least, le-ltb size 0 (omega arith), po, same);
          nothing = λ _. rw (← po) (says_nothing op unknown (take long (drop at b)));
          within = λ _. below;
        }

pub ruleset passing = (passes_none, passes, rules)
