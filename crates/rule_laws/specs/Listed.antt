-- Every error that a rule tells has a number of the list, 10 to 30, and so never 0: whatever ring, descriptor, table, entry, stream or packet is
-- judged. A refusal is one of the rules, so it is said of each rule once. Assumes nothing.
use Rattle.std.specs.Prelude.{◌≡◌, refl, Bool, true, ◌&&◌, List, ℕ, ◌≤◌, leb, Err, Ok}
use native.Mathlib.Omega.{arith}
use Rattle.rules.specs.Numbers.{bad_ring, bad_state}
use Rattle.rules.specs.Judging.{error_number, Verdict}
use Rattle.rules.specs.Table.{take_entry}
use Rattle.rules.specs.Stream.{frame_of, Frame}
use Rattle.rules.specs.Ring.{opening_of}
use Rattle.rules.specs.Packets.{Progress, pass, take_packet}
use Rattle.rules.specs.declared.Entry.{Entry}
use Rattle.rules.specs.declared.Packet.{Packet}
use Rattle.rules.specs.declared.Table.{Table}
use Rattle.rules.specs.declared.Opening.{Opening}
use Rattle.rules.specs.declared.Opening.TheVariants.{BadRing as NoRing, NoWork, Refused, Started}
use Rattle.rules.specs.declared.Refusal.{Refusal}
use Rattle.rules.specs.declared.Refusal.TheVariants.{BadRing, BadDescriptor, OutsideMemory, BadTable, BadEntry, TwiceInTable, BadStream, BadPacket, BadHandle, TooMany, BadShape, NotInTable, PastEntry, ReadOnly, PastResource, HostBacked, BadCopy, HostFailed, BadToken, UnboundToken, BadState}

-- "error code .. one of 01's", which wishes 5 and 7 made 10 to 30
abbrev pub listed : ℕ → Bool
listed code = leb bad_ring code && leb code bad_state

-- what a rule comes to is no error, or a listed one
abbrev pub Listed : Verdict → Type 0
Listed (Ok _) = 0 ≤ 0
Listed (Err r) = listed (error_number r) ≡ true

-- bytes that are no packet
abbrev pub ListedFrame : Frame → Type 0
ListedFrame (Ok (op, size)) = 0 ≤ 0
ListedFrame (Err r) = listed (error_number r) ≡ true

-- what an opening refuses a submission with
abbrev pub ListedOpening : Opening → Type 0
ListedOpening NoRing = 0 ≤ 0
ListedOpening NoWork = 0 ≤ 0
ListedOpening (Refused j r) = listed (error_number r) ≡ true
ListedOpening (Started o) = 0 ≤ 0

pub rule-listed : (r : Refusal) → listed (error_number r) ≡ true
rule-listed BadRing = refl
rule-listed BadDescriptor = refl
rule-listed OutsideMemory = refl
rule-listed BadTable = refl
rule-listed BadEntry = refl
rule-listed TwiceInTable = refl
rule-listed BadStream = refl
rule-listed BadPacket = refl
rule-listed BadHandle = refl
rule-listed TooMany = refl
rule-listed BadShape = refl
rule-listed NotInTable = refl
rule-listed PastEntry = refl
rule-listed ReadOnly = refl
rule-listed PastResource = refl
rule-listed HostBacked = refl
rule-listed BadCopy = refl
rule-listed HostFailed = refl
rule-listed BadToken = refl
rule-listed UnboundToken = refl
rule-listed BadState = refl

pub verdict-listed : (v : Verdict) → Listed v
verdict-listed (Ok _) = omega arith
verdict-listed (Err r) = rule-listed r

-- an entry's step
pub take_entry_listed : (m : List ℕ) (t : Table) (kept : List Entry) → Listed (take_entry m t kept).verdict
take_entry_listed m t kept = verdict-listed (take_entry m t kept).verdict

pub frame-of-listed : (b : List ℕ) → ListedFrame (frame_of b)
frame-of-listed b = by_frame (frame_of b)
  where
    by_frame : (f : Frame) → ListedFrame f
    by_frame (Ok (op, size)) = omega arith
    by_frame (Err r) = rule-listed r

pub opening_listed : (m : List ℕ) (ring size : ℕ) → ListedOpening (opening_of m ring size)
opening_listed m ring size = by_opening (opening_of m ring size)
  where
    by_opening : (o : Opening) → ListedOpening o
    by_opening NoRing = omega arith
    by_opening NoWork = omega arith
    by_opening (Refused j r) = rule-listed r
    by_opening (Started o) = omega arith

-- a packet, whatever is held
pub pass_listed : (es : List Entry) (h : Progress) (p : Packet) → Listed (pass es h p).verdict
pass_listed es h p = verdict-listed (pass es h p).verdict

-- a packet's step
pub take_packet_listed : (es : List Entry) (h : Progress) (b : List ℕ) → Listed (take_packet es h b).verdict
take_packet_listed es h b = verdict-listed (take_packet es h b).verdict
