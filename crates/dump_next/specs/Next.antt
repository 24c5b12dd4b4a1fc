-- How a listing goes on behind its next line, and what the writer of that line asks for. Assumes nothing.
use Rattle.std.specs.Prelude.{◌≡◌, refl, Bool, true, false, ◌&&◌, List, [], ◌∷◌, ◌++◌, ℕ, ◌+◌, ◌-◌, ◌≤◌, ◌<◌, ◌^◌, length, take, drop, Ok}
use Rattle.std.proofs.Common.{sym, arith, rules, Fits, length-drop, length-take-le}
use Rattle.std.specs.Int.{w64}
use Rattle.rules.specs.Stream.{frame_of, packet_of, least_size}
use Rattle.rules.specs.PacketRows.{packet_row}
use Rattle.rules.specs.Text.{ascii}
use Rattle.rules.specs.Dump.{line, line_in, opcode_text, ending_text, stops}
use Rattle.rules.specs.Dump.Ending.{refused}
use Rattle.stream_packets.specs.Framing.{frame-sound}
use Rattle.stream_listing.specs.Seen.{seen, SeenPacket, was-known, was-unknown, was-bad}
use Rattle.stream_listing.specs.Walk.{further, inside}
use Rattle.stream_listing.specs.declared.Seen.{Seen}
use Rattle.stream_listing.specs.declared.Seen.TheVariants.{Known, Unknown, Bad}
use Rattle.text_numbers.specs.Writing.{Puts}
use Rattle.text_filling.specs.Filling.{filled, piece, takes}
use Rattle.dump_lines.specs.Lines.{same-room, same-put}
use Rattle.dump_next.specs.Rest.{next_line, rest_from, line-bad, rest-bad, line-stopped, rest-stopped, line_on, rest-on}
use Rattle.dump_next.specs.declared.Going.{Going}
use Rattle.dump_next.specs.declared.Going.TheVariants.{On, Ended}
use Rattle.rules.specs.Judging.{error_number}
use Rattle.rules.specs.declared.Refusal.{Refusal}

-- the next line is written, and the text goes on behind it
pub record GoesOn (strict : Bool) (s : List ℕ) (at end : ℕ) (m : List ℕ) (at' end' : ℕ) (m' : List ℕ) : Type 0 where
  pub split : rest_from strict s at ≡ next_line strict s at ++ rest_from strict s at'
  pub puts : Puts end (next_line strict s at) m end' m'
  pub later : at < at'
  pub within : at' ≤ length s

-- the next line is written, and it is the last
pub record GoesNot (strict : Bool) (s : List ℕ) (at end : ℕ) (m : List ℕ) (end' : ℕ) (m' : List ℕ) : Type 0 where
  pub whole : rest_from strict s at ≡ next_line strict s at
  pub puts : Puts end (next_line strict s at) m end' m'

abbrev pub Goes : Bool → List ℕ → ℕ → ℕ → List ℕ → Going → List ℕ → Type 0
Goes strict s at end m (On at' end') m' = GoesOn strict s at end m at' end' m'
Goes strict s at end m (Ended end') m' = GoesNot strict s at end m end' m'

-- ---- put_error

pub error-line : (why : Refusal) (n : ℕ) → n ≡ error_number why → filled (ascii "error=%\n") (n ∷ []) ≡ ending_text (refused why)
unfolding filled piece takes ending_text
error-line why n e = rw e

pub ruleset writing_error = (same-room, same-put, error-line, rules)

-- ---- put_packet

module _ (s : List ℕ) (at op size : ℕ) (framed : frame_of (drop at s) ≡ Ok (op, size)) where
  fits : size ≤ length s - at
  fits = rw length-drop at (frame-sound (drop at s) op size framed).inside

  some : 8 ≤ size
  some = (frame-sound (drop at s) op size framed).header

  pub part-there : (long : ℕ) → long ≡ size → at + long ≤ length s
  part-there long e = omega (arith, fits, some)

  module _ (long : ℕ) (is : long ≡ size) (b : List ℕ) (part : b ≡ take long (drop at s)) where
    pub known-there : least_size op ≤ length b
    known-there =
        let n : length b ≡ size = rw (part, is) (length-take-le size (drop at s) (frame-sound (drop at s) op size framed).inside) in
        rw n (frame-sound (drop at s) op size framed).known

    pub packet-line : (offset n : ℕ) → offset ≡ at → n ≡ size → line_in (packet_row op) offset op n b ≡ line_in (packet_row op) at op size (take size (drop at s))
    packet-line offset n p q = rw (part, is, p, q)

pub ruleset writing_packet = (same-room, same-put, part-there, known-there, packet-line, rules)

-- ---- put_next

module _ (strict : Bool) (s : List ℕ) (at : ℕ) (here : at < length s) (x : Seen) (sees : x ≡ seen (drop at s)) (end : ℕ) (m : List ℕ) where
  module _ (why : Refusal) (e : x ≡ Bad why) where
    bad : next_line strict s at ≡ ending_text (refused why)
    bad = line-bad strict s at here why (was-bad (drop at s) x sees why e)

    pub bad-room : end + length (next_line strict s at) ≤ length m → end + length (ending_text (refused why)) ≤ length m
    bad-room h = rw bad at h

    pub goes-bad : (end' : ℕ) (m' : List ℕ) → Puts end (ending_text (refused why)) m end' m' → Goes strict s at end m (Ended end') m'
    goes-bad end' m' p = record { whole = rest-bad strict s at here why (was-bad (drop at s) x sees why e); puts = rw bad p }

  module _ (op size : ℕ) where
    module _ (u : Bool) (p : SeenPacket (drop at s) op size u) (h : stops strict (packet_of op (take size (drop at s))) ≡ false) where
      on : next_line strict s at ≡ line_in (packet_row op) at op size (take size (drop at s))
      on = line_on strict s at here op size p.frame h

      on_room : end + length (next_line strict s at) ≤ length m → end + length (line_in (packet_row op) at op size (take size (drop at s))) ≤ length m
      on_room r = rw on at r

      goes_further : (long : ℕ) → long ≡ size → (end' : ℕ) (m' : List ℕ)
          → Puts end (line_in (packet_row op) at op size (take size (drop at s))) m end' m' → Goes strict s at end m (On (at + long) end') m'
      goes_further long e end' m' q =
          rw e (record {
            split = rest-on strict s at here op size p.frame h;
            puts = rw on q;
            later = further strict s at here op size p.frame;
            within = inside strict s at here op size p.frame;
          })

    module _ (e : x ≡ Known op size) where
      known-packet : SeenPacket (drop at s) op size false
      known-packet = was-known (drop at s) x sees op size e

      goes : stops strict (packet_of op (take size (drop at s))) ≡ false
      goes = rw known-packet.tells (by_test strict)
        where
          by_test : (b : Bool) → b && false ≡ false
          by_test true = refl
          by_test false = refl

      pub known-framed : frame_of (drop at s) ≡ Ok (op, size)
      known-framed = known-packet.frame

      pub known-room : end + length (next_line strict s at) ≤ length m → end + length (line_in (packet_row op) at op size (take size (drop at s))) ≤ length m
      known-room = on_room false known-packet goes

      pub known-fits : (long : ℕ) → long ≡ size → length s < 2 ^ 64 → Fits w64 (at + long)
      known-fits long l g = record { fits = omega (arith, inside strict s at here op size known-packet.frame) }

      pub goes-known : (long : ℕ) → long ≡ size → (end' : ℕ) (m' : List ℕ)
          → Puts end (line_in (packet_row op) at op size (take size (drop at s))) m end' m' → Goes strict s at end m (On (at + long) end') m'
      goes-known = goes_further false known-packet goes

    module _ (e : x ≡ Unknown op size) where
      unknown-packet : SeenPacket (drop at s) op size true
      unknown-packet = was-unknown (drop at s) x sees op size e

      module _ (t : strict ≡ true) (offset n o : ℕ) (a : offset ≡ at) (b : n ≡ size) (c : o ≡ op) where
        halts : stops strict (packet_of op (take size (drop at s))) ≡ true
        halts = rw (t, unknown-packet.tells)

        stopped-is : line offset "STOPPED" n (opcode_text o) ≡ next_line strict s at
        stopped-is = rw (a, b, c) (sym (line-stopped strict s at here op size unknown-packet.frame halts))

        pub stopped-room : end + length (next_line strict s at) ≤ length m → end + length (line offset "STOPPED" n (opcode_text o)) ≤ length m
        stopped-room h = rw stopped-is h

        pub goes-stopped : (end' : ℕ) (m' : List ℕ) → Puts end (line offset "STOPPED" n (opcode_text o)) m end' m' → Goes strict s at end m (Ended end') m'
        goes-stopped end' m' p =
            record { whole = rest-stopped strict s at here op size unknown-packet.frame halts; puts = rw stopped-is at p }

      module _ (t : strict ≡ false) where
        passes : stops strict (packet_of op (take size (drop at s))) ≡ false
        passes = rw t

        pub unknown-framed : frame_of (drop at s) ≡ Ok (op, size)
        unknown-framed = unknown-packet.frame

        pub unknown-room : end + length (next_line strict s at) ≤ length m → end + length (line_in (packet_row op) at op size (take size (drop at s))) ≤ length m
        unknown-room = on_room true unknown-packet passes

        pub unknown-fits : (long : ℕ) → long ≡ size → length s < 2 ^ 64 → Fits w64 (at + long)
        unknown-fits long l g = record { fits = omega (arith, inside strict s at here op size unknown-packet.frame) }

        pub goes-unknown : (long : ℕ) → long ≡ size → (end' : ℕ) (m' : List ℕ)
            → Puts end (line_in (packet_row op) at op size (take size (drop at s))) m end' m' → Goes strict s at end m (On (at + long) end') m'
        goes-unknown = goes_further true unknown-packet passes

pub ruleset going_bad = (bad-room, goes-bad, rules)

pub ruleset going_known = (known-framed, known-room, known-fits, goes-known, rules)

pub ruleset going_unknown = (unknown-framed, unknown-room, unknown-fits, goes-unknown, rules)

pub ruleset going_stopped = (stopped-room, goes-stopped, rules)

-- each line brings the listing nearer to the end of the stream
pub goes-less : (strict : Bool) (s : List ℕ) (at end : ℕ) (m : List ℕ) (x : Going) (m' : List ℕ) → Goes strict s at end m x m' → (next last : ℕ) → x ≡ On next last
    → length s - next < length s - at
goes-less strict s at end m x m' g next last e =
    let on : GoesOn strict s at end m next last m' = rw e at g in
    let l : at < next = on.later in
    let w : next ≤ length s = on.within in
    omega arith
