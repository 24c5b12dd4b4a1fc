-- 01, "Open" 16, and the framing of "Packet": the command stream.
use Rattle.std.specs.Prelude.{not, List, [], ◌∷◌, ℕ, zero, suc, ◌+◌, ◌%◌, ltb, eqb, length, take, drop, Result, Ok, Err}
use Rattle.machine.specs.Machine.{pick}
use Rattle.rules.specs.Numbers.{stream_magic, create_buffer, create_texture, destroy, dirty_range, copy_buffer, set_target, set_viewport, set_scissor, clear, export_surface, import_surface, release_token, create_buffer_size, create_texture_size, destroy_size, dirty_range_size, copy_buffer_size, set_target_size, set_viewport_size, set_scissor_size, clear_size, export_surface_size, import_surface_size, release_token_size}
use Rattle.rules.specs.Judging.{rule, ◌▹◌, Verdict}
use Rattle.rules.specs.Layouts.{word, stream_header_size, packet_header_size, buffer_fields, texture_fields, destroy_fields, dirty_fields, copy_fields, target_fields, viewport_floats, viewport_fields, scissor_fields, clear_floats, clear_fields, export_fields, import_fields, release_fields}
use Rattle.rules.specs.Floats.{nan_among}
use Rattle.rules.specs.Headers.{wrong_header}
use Rattle.rules.specs.Lists.{Found}
use Rattle.rules.specs.Lists.Found.{none, found}
use Rattle.rules.specs.declared.StreamHeader.{StreamHeader}
use Rattle.rules.specs.declared.Stream.{Stream}
use Rattle.rules.specs.declared.Refusal.{Refusal}
use Rattle.rules.specs.declared.Packet.{Packet}
use Rattle.rules.specs.declared.Packet.TheVariants.{Buffer, Texture, Destroy, Dirty, Copy, Target, Viewport, Scissor, Clear, Export, Import, Release, NotANumber, Unknown}
use Rattle.rules.specs.declared.Refusal.TheVariants.{BadStream, BadPacket}

-- "16: cmd size below 24; magic; version; stream size below 24 or above cmd size."
unfoldable pub stream_rules : ℕ → StreamHeader → Verdict
stream_rules cmdsize h =
    rule BadStream (wrong_header stream_magic stream_header_size cmdsize h.magic h.version h.size)

-- the numbers kept of it
abbrev pub stream_of : ℕ → StreamHeader → Stream
stream_of gpa h = record { gpa = gpa; size = h.size }

abbrev pub no_stream : Stream
no_stream = record { gpa = 0; size = 0 }

-- ---- one packet: the table of opcodes

-- a packet that we know: its bytes, and what they say
pub record Known : Type 0 where
  pub size : ℕ
  pub fields : List ℕ → Packet

abbrev pub row : ℕ → (List ℕ → Packet) → Found Known
row size fields = found (record { size = size; fields = fields })

-- a packet that has floats, these by their bits: one with a NaN among them is a case of its own
abbrev pub unless_nan : List ℕ → Packet → Packet
unless_nan floats p = pick (nan_among floats) NotANumber p

-- "Opcode | Packet, bytes | Fields": each row once. The last seven are those of wishes 7 and 5.
unfoldable pub known : ℕ → Found Known
known op =
    pick (eqb op create_buffer) (row create_buffer_size (λ b. Buffer (buffer_fields b)))
    (pick (eqb op create_texture) (row create_texture_size (λ b. Texture (texture_fields b)))
    (pick (eqb op destroy) (row destroy_size (λ b. Destroy (destroy_fields b)))
    (pick (eqb op dirty_range) (row dirty_range_size (λ b. Dirty (dirty_fields b)))
    (pick (eqb op copy_buffer) (row copy_buffer_size (λ b. Copy (copy_fields b)))
    (pick (eqb op set_target) (row set_target_size (λ b. Target (target_fields b)))
    (pick (eqb op set_viewport) (row set_viewport_size (λ b. unless_nan (viewport_floats b) (Viewport (viewport_fields b))))
    (pick (eqb op set_scissor) (row set_scissor_size (λ b. Scissor (scissor_fields b)))
    (pick (eqb op clear) (row clear_size (λ b. unless_nan (clear_floats b) (Clear (clear_fields b))))
    (pick (eqb op export_surface) (row export_surface_size (λ b. Export (export_fields b)))
    (pick (eqb op import_surface) (row import_surface_size (λ b. Import (import_fields b)))
    (pick (eqb op release_token) (row release_token_size (λ b. Release (release_fields b))) none)))))))))))

-- the bytes of a row, 0 where there is none, which are the least that its packet has; and what a packet's own bytes say. "Unknown opcodes are skipped."
abbrev pub bytes_in : Found Known → ℕ
bytes_in none = 0
bytes_in (found k) = k.size

abbrev pub says_in : Found Known → List ℕ → Packet
says_in none b = Unknown
says_in (found k) b = k.fields b

unfoldable pub least_size : ℕ → ℕ
least_size op = bytes_in (known op)

unfoldable pub packet_of : ℕ → List ℕ → Packet
packet_of op b = says_in (known op) b

-- "17: 1 to 7 bytes left; size below 8, not a multiple of 4, or past the end"; and by wish 2: "A known packet is good from its table size
-- upward, still a multiple of 4 and inside the stream, and the extra bytes are ignored. Shorter ones keep 17."
-- Put to the bytes that are left of a stream.
unfoldable pub frame_rules : List ℕ → Verdict
frame_rules b =
    rule BadPacket (ltb (length b) packet_header_size)
    ▹ rule BadPacket (ltb (word b 4) packet_header_size)
    ▹ rule BadPacket (not (eqb (word b 4 % 4) 0))
    ▹ rule BadPacket (ltb (length b) (word b 4))
    ▹ rule BadPacket (ltb (word b 4) (least_size (word b 0)))

-- what the bytes left of a stream begin with: a whole packet, by opcode and size, or the rule that is broken
abbrev pub Frame : Type 0
Frame = Result (ℕ × ℕ) Refusal

abbrev pub framed : Verdict → ℕ → ℕ → Frame
framed (Ok _) op size = Ok (op, size)
framed (Err r) op size = Err r

-- the frame of the packet that the bytes left begin with
unfoldable pub frame_of : List ℕ → Frame
frame_of b = framed (frame_rules b) (word b 0) (word b 4)

-- the stream's own bytes, and what is left of them from a place on
abbrev pub stream_bytes : List ℕ → Stream → List ℕ
stream_bytes m s = take s.size (drop s.gpa m)

abbrev pub left : List ℕ → Stream → ℕ → List ℕ
left m s at = drop at (stream_bytes m s)

-- ---- the stream as a list

-- a packet, or what is none, each with its offset in the stream
pub data Piece : Type 0 where
  packet : ℕ → Packet → Piece
  misframed : ℕ → Refusal → Piece

abbrev pub size_of : Frame → ℕ
size_of (Ok (op, size)) = size
size_of (Err r) = 0

-- a packet before those after it; nothing is after a bad one
abbrev pub before : ℕ → Frame → List ℕ → List Piece → List Piece
before at (Ok (op, size)) b later = packet at (packet_of op (take size b)) ∷ later
before at (Err r) b later = misframed at r ∷ []

-- the packets of the bytes that stand at an offset, of which there are no more than the first number says
unfoldable pub cut : ℕ → ℕ → List ℕ → List Piece
cut zero at b = []
cut (suc k) at b = pick (eqb (length b) 0) [] (before at (frame_of b) b (cut k (at + size_of (frame_of b)) (drop (size_of (frame_of b)) b)))

-- "from byte 24 to the stream size"
abbrev pub packets_of : List ℕ → Stream → List Piece
packets_of m s = cut s.size stream_header_size (left m s stream_header_size)
