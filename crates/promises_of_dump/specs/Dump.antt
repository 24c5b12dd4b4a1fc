-- "The text for a packet is exact, and every accepted packet appears once, in order." Assumes nothing.
use Rattle.std.specs.Prelude.{◌≡◌, Bool, List, [], ◌∷◌, ◌++◌, eqb, length, take, drop, Err, Ok}
use Rattle.std.proofs.Math.Path.{refl}
use Rattle.std.proofs.Math.Bool.{true, false}
use Prim.Native.Nat.{ℕ, zero, suc, ◌+◌, ◌≤◌, ◌<◌}
use native.Mathlib.Omega.{arith}
use borrow.Author.Tests.{lt-ltb, le-ltb}
use Rattle.machine.specs.Machine.{pick}
use Rattle.rules.specs.Layouts.{stream_header, stream_header_size}
use Rattle.rules.specs.Lists.{Found}
use Rattle.rules.specs.Lists.Found.{none, found}
use Rattle.rules.specs.Stream.{stream_rules, stream_of, frame_of, packet_of, size_of, Piece, before, cut, packets_of, Frame}
use Rattle.rules.specs.Stream.Piece.{packet, misframed}
use Rattle.rules.specs.declared.Refusal.{Refusal}
use Rattle.stream_packets.specs.Framing.{frame-sound}
use Rattle.rules.specs.Dump.{Listed, Ending, ending_text, Dump, ends, first_then, stops, listed_at, listed_before, listed, dump_of, lines_of, text_of, longest_dump, bad_input, listing}
use Rattle.rules.specs.Dump.Ending.{complete, stopped, refused}

-- ---- which packets are accepted: those of the rule book's own list of a stream's packets, up to the first that is bad or, with the strict
-- setting, the first whose opcode is unknown

unfoldable pub accepted : Bool → List Piece → List Piece
accepted strict [] = []
accepted strict (packet at p ∷ ps) = pick (stops strict p) [] (packet at p ∷ accepted strict ps)
accepted strict (misframed at r ∷ ps) = []

-- a packet of a listing is that packet of the stream
unfoldable pub pieces : List Listed → List Piece
pieces [] = []
pieces (p ∷ ps) = packet p.at (packet_of p.opcode p.bytes) ∷ pieces ps

-- the whole text is those lines, in that order, and how it ends
pub listing-is-lines : (first : ℕ) (b : List ℕ) → first ≤ 1 → length b ≤ longest_dump
    → listing (first ∷ b) ≡ lines_of (dump_of (eqb first 1) b).packets ++ ending_text (dump_of (eqb first 1) b).ending
unfolding listing text_of
listing-is-lines first b h l = rw (le-ltb 1 first h, le-ltb longest_dump (length b) l)

-- ---- the offsets rise: no packet is listed twice

unfoldable pub RisingFrom : ℕ → List Listed → Type 0
RisingFrom at [] = Unit {0}
RisingFrom at (p ∷ ps) = (at ≤ p.at) × RisingFrom (p.at + 8) ps

rising-later : (a b : ℕ) (ps : List Listed) → a ≤ b → RisingFrom b ps → RisingFrom a ps
unfolding RisingFrom
rising-later a b [] h r = tt
rising-later a b (p ∷ ps) h r = (omega (arith, r.0), r.1)

module _ (strict : Bool) where
  whole-rises : (at op size : ℕ) (b : List ℕ) (d : Dump) → 8 ≤ size → RisingFrom (at + size) d.packets → (t : Bool)
      → RisingFrom at (pick t (ends (stopped (listed_at at op size b))) (first_then (listed_at at op size b) d)).packets
  unfolding RisingFrom
  whole-rises at op size b d h r true = tt
  whole-rises at op size b d h r false = (omega arith, rising-later (at + 8) (at + size) d.packets (omega arith) r)

  before-rises : (at : ℕ) (f : Frame) (b : List ℕ) (d : Dump) → frame_of b ≡ f → RisingFrom (at + size_of f) d.packets → RisingFrom at (listed_before strict at f b d).packets
  unfolding RisingFrom
  before-rises at (Ok (op, size)) b d e r = whole-rises at op size b d (frame-sound b op size e).header r (stops strict (packet_of op (take size b)))
  before-rises at (Err q) b d e r = tt

  test-rises : (t : Bool) (at : ℕ) (d : Dump) → RisingFrom at d.packets → RisingFrom at (pick t (ends complete) d).packets
  unfolding RisingFrom
  test-rises true at d r = tt
  test-rises false at d r = r

  pub offsets-rise : (k at : ℕ) (b : List ℕ) → RisingFrom at (listed strict k at b).packets
  unfolding listed RisingFrom
  offsets-rise zero at b = tt
  offsets-rise (suc k) at b = test-rises (eqb (length b) 0) at _ (before-rises at (frame_of b) b _ refl (offsets-rise k (at + size_of (frame_of b)) (drop (size_of (frame_of b)) b)))

-- ---- "A bad header or packet ends the listing with its error number."

-- the error that the packets of a stream end with: that of the first bad one, unless the strict setting stops before it
unfoldable pub error_of : Bool → List Piece → Found Refusal
error_of strict [] = none
error_of strict (packet at p ∷ ps) = pick (stops strict p) none (error_of strict ps)
error_of strict (misframed at r ∷ ps) = found r

abbrev pub error_in : Ending → Found Refusal
error_in complete = none
error_in (stopped p) = none
error_in (refused r) = found r

module _ (strict : Bool) where
  whole-error : (at op size : ℕ) (b : List ℕ) (d : Dump) (ps : List Piece) → error_in d.ending ≡ error_of strict ps → (t : Bool)
      → error_in (pick t (ends (stopped (listed_at at op size b))) (first_then (listed_at at op size b) d)).ending ≡ pick t none (error_of strict ps)
  whole-error at op size b d ps h true = refl
  whole-error at op size b d ps h false = h

  before-error : (at : ℕ) (f : Frame) (b : List ℕ) (d : Dump) (ps : List Piece) → error_in d.ending ≡ error_of strict ps
      → error_in (listed_before strict at f b d).ending ≡ error_of strict (before at f b ps)
  unfolding error_of
  before-error at (Ok (op, size)) b d ps h = whole-error at op size b d ps h (stops strict (packet_of op (take size b)))
  before-error at (Err r) b d ps h = refl

  test-error : (t : Bool) (d : Dump) (ps : List Piece) → error_in d.ending ≡ error_of strict ps → error_in (pick t (ends complete) d).ending ≡ error_of strict (pick t [] ps)
  unfolding error_of
  test-error true d ps h = refl
  test-error false d ps h = h

  listed_error : (k at : ℕ) (b : List ℕ) → error_in (listed strict k at b).ending ≡ error_of strict (cut k at b)
  unfolding listed cut error_of
  listed_error zero at b = refl
  listed_error (suc k) at b =
      test-error (eqb (length b) 0) _ _
      (before-error at (frame_of b) b _ _ (listed_error k (at + size_of (frame_of b)) (drop (size_of (frame_of b)) b)))

  module _ (b : List ℕ) where
    pub bad-packet-ends-it : stream_rules (length b) (stream_header b 0) ≡ Ok tt
        → error_in (dump_of strict b).ending ≡ error_of strict (packets_of b (stream_of 0 (stream_header b 0)))
    unfolding dump_of
    bad-packet-ends-it fine = rw fine (listed_error (stream_header b 0).size stream_header_size (drop stream_header_size (take (stream_header b 0).size b)))

    pub bad-header-ends-it : (r : Refusal) → stream_rules (length b) (stream_header b 0) ≡ Err r → text_of (dump_of strict b) ≡ ending_text (refused r)
    unfolding dump_of text_of lines_of
    bad-header-ends-it r bad = rw bad

-- ---- "Any other first byte, none, or a longer dump gives one fixed line."

pub no-first-byte : listing [] ≡ bad_input
unfolding listing
no-first-byte = refl

module _ (first : ℕ) (b : List ℕ) where
  pub other-first-byte : 1 < first → listing (first ∷ b) ≡ bad_input
  unfolding listing
  other-first-byte h = rw (lt-ltb 1 first h)

  pub longer-dump : first ≤ 1 → longest_dump < length b → listing (first ∷ b) ≡ bad_input
  unfolding listing
  longer-dump f h = rw (le-ltb 1 first f, lt-ltb longest_dump (length b) h)
