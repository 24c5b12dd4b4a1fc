-- 02, wish 3, "Read me the dump": the text of a dump.
use Rattle.std.specs.Prelude.{Bool, true, false, ◌&&◌, ◌||◌, List, [], ◌∷◌, ◌++◌, ℕ, zero, suc, ◌+◌, ltb, eqb, length, take, drop, Err, Ok}
use Prim.Native.String.{String}
use Rattle.machine.specs.Machine.{pick}
use Rattle.rules.specs.Fields.{Field, FieldType, number_of}
use Rattle.rules.specs.Fields.FieldType.{U32, U64, F32, I32}
use Rattle.rules.specs.Layouts.{signed, stream_header, stream_header_size}
use Rattle.rules.specs.Lists.{Found}
use Rattle.rules.specs.Lists.Found.{none, found}
use Rattle.rules.specs.Stream.{stream_rules, frame_of, size_of, packet_of, Frame}
use Rattle.rules.specs.PacketRows.{PacketRow, packet_row}
use Rattle.rules.specs.declared.Refusal.{Refusal}
use Rattle.rules.specs.declared.Packet.{Packet}
use Rattle.rules.specs.declared.Packet.TheVariants.{Buffer, Texture, Destroy, Dirty, Copy, Target, Viewport, Scissor, Clear, Export, Import, Release, NotANumber, Unknown}
use Rattle.rules.specs.Text.{ascii, hex, decimal, signed_decimal}
use Rattle.rules.specs.Judging.{error_number, Verdict}

-- ---- a line

-- the number of a field: as it is; "The dump prints floats as u32 bits" (wish 7); an i32 has its sign
abbrev pub number_text : FieldType → ℕ → List ℕ
number_text U32 n = decimal n
number_text U64 n = decimal n
number_text F32 n = decimal n
number_text I32 n = signed_decimal (signed n)

abbrev pub end_of_line : List ℕ
end_of_line = 10 ∷ []

-- "name=decimal", and the text behind it
abbrev pub field_text : String → List ℕ → List ℕ → List ℕ
field_text name value later = ascii " " ++ (ascii name ++ (ascii "=" ++ (value ++ later)))

-- "then its fields as name=decimal in layout order", and the end of the line
abbrev pub fields_text : List Field → List ℕ → List ℕ
fields_text [] b = end_of_line
fields_text (f ∷ fs) b = field_text f.name (number_text f.type (number_of f b 0)) (fields_text fs b)

-- "the offset as 0x and eight lower-case hex digits, the packet's name, size_bytes=N", and the text behind it
unfoldable pub line : ℕ → String → ℕ → List ℕ → List ℕ
line at name size later = ascii "0x" ++ (hex 8 at ++ (ascii " " ++ (ascii name ++ (ascii " size_bytes=" ++ (decimal size ++ later)))))

-- UNKNOWN and STOPPED print the opcode in place of fields
abbrev pub opcode_text : ℕ → List ℕ
opcode_text op = field_text "opcode" (decimal op) end_of_line

-- the line of a packet by its row: the name and the fields are those of the table of opcodes
abbrev pub line_in : Found PacketRow → ℕ → ℕ → ℕ → List ℕ → List ℕ
line_in none at op size b = line at "UNKNOWN" size (opcode_text op)
line_in (found k) at op size b = line at k.name size (fields_text k.layout b)

-- ---- the packets of a dump

-- a packet, by its offset in the stream, what its header says, and its own bytes
pub record Listed : Type 0 where
  pub at : ℕ
  pub opcode : ℕ
  pub size : ℕ
  pub bytes : List ℕ

-- "a line a packet"
unfoldable pub line_of : Listed → List ℕ
line_of p = line_in (packet_row p.opcode) p.at p.opcode p.size p.bytes

-- how a listing ends: with the stream; "stops there with a line naming it"; "A bad header or packet ends the listing with its error number"
pub data Ending : Type 0 where
  complete : Ending
  stopped : Listed → Ending
  refused : Refusal → Ending

unfoldable pub ending_text : Ending → List ℕ
ending_text complete = []
ending_text (stopped p) = line p.at "STOPPED" p.size (opcode_text p.opcode)
ending_text (refused r) = ascii "error=" ++ (decimal (error_number r) ++ end_of_line)

-- the packets that are listed, in order, and how the listing ends
pub record Dump : Type 0 where
  pub packets : List Listed
  pub ending : Ending

abbrev pub ends : Ending → Dump
ends e = record { packets = []; ending = e }

abbrev pub first_then : Listed → Dump → Dump
first_then p d = record { packets = p ∷ d.packets; ending = d.ending }

abbrev pub is_unknown : Packet → Bool
is_unknown (Buffer f) = false
is_unknown (Texture f) = false
is_unknown (Destroy f) = false
is_unknown (Dirty f) = false
is_unknown (Copy f) = false
is_unknown (Target f) = false
is_unknown (Viewport f) = false
is_unknown (Scissor f) = false
is_unknown (Clear f) = false
is_unknown (Export f) = false
is_unknown (Import f) = false
is_unknown (Release f) = false
is_unknown NotANumber = false
is_unknown Unknown = true

-- "Unknown opcodes print UNKNOWN and go on; the strict setting .. stops there"
abbrev pub stops : Bool → Packet → Bool
stops strict p = strict && is_unknown p

abbrev pub listed_at : ℕ → ℕ → ℕ → List ℕ → Listed
listed_at at op size b = record { at = at; opcode = op; size = size; bytes = take size b }

-- a packet before those after it; nothing is after a bad one, or after the one where the listing stops
abbrev pub listed_before : Bool → ℕ → Frame → List ℕ → Dump → Dump
listed_before strict at (Ok (op, size)) b later =
    pick (stops strict (packet_of op (take size b))) (ends (stopped (listed_at at op size b))) (first_then (listed_at at op size b) later)
listed_before strict at (Err r) b later = ends (refused r)

-- the packets of the bytes at an offset, at most k of them (the caller gives no fewer than there are bytes)
unfoldable pub listed : Bool → ℕ → ℕ → List ℕ → Dump
listed strict zero at b = ends complete
listed strict (suc k) at b =
    pick (eqb (length b) 0) (ends complete)
    (listed_before strict at (frame_of b) b (listed strict k (at + size_of (frame_of b)) (drop (size_of (frame_of b)) b)))

abbrev pub dump_in : Bool → List ℕ → Verdict → ℕ → Dump
dump_in strict b (Ok _) size = listed strict size stream_header_size (drop stream_header_size (take size b))
dump_in strict b (Err r) size = ends (refused r)

-- a raw stream: its length is the cmd size of rule 16
unfoldable pub dump_of : Bool → List ℕ → Dump
dump_of strict b = dump_in strict b (stream_rules (length b) (stream_header b 0)) (stream_header b 0).size

-- ---- the whole text

unfoldable pub lines_of : List Listed → List ℕ
lines_of [] = []
lines_of (p ∷ ps) = line_of p ++ lines_of ps

unfoldable pub text_of : Dump → List ℕ
text_of d = lines_of d.packets ++ ending_text d.ending

-- "at most 64 KiB"
abbrev pub longest_dump : ℕ
longest_dump = 65536

-- "Any other first byte, none, or a longer dump gives one fixed line."
abbrev pub bad_input : List ℕ
bad_input = ascii "bad input" ++ end_of_line

-- "the strict setting, a first input byte of 1 before the dump (0 otherwise)"
unfoldable pub listing : List ℕ → List ℕ
listing [] = bad_input
listing (first ∷ b) = pick (ltb 1 first || ltb longest_dump (length b)) bad_input (text_of (dump_of (eqb first 1) b))
