-- Wish 9, "the entry index for 14 and 15, the packet's byte offset in the stream for packet errors, else 0": the numbers that an opening's rules have and
-- those that a packet's rules have. None of them is 14 or 15, which are an entry's. Assumes nothing.
use Rattle.std.specs.Prelude.{◌≡◌, Bool, true, not, ◌&&◌, ◌||◌, ℕ, ◌≤◌, ◌⊎◌, leb, eqb, Err, Ok}
use Rattle.rules.specs.Numbers.{bad_descriptor, outside_memory, bad_table, bad_entry, twice_in_table, bad_stream, bad_packet, too_many, host_failed, bad_state}
use Rattle.rules.specs.Packets.{Outcome}
use Rattle.rules.specs.declared.Opening.{Opening}
use Rattle.rules.specs.declared.Opening.TheVariants.{BadRing, NoWork, Refused, Started}
use Rattle.rules.specs.Judging.{error_number, Verdict}
use Rattle.rules.specs.Stream.{Frame}

-- the numbers that an entry's rules have
abbrev pub EntryRule : ℕ → Type 0
EntryRule n = (n ≡ bad_entry) ⊎ (n ≡ twice_in_table)

-- those of an opening: 11, 12, 13, 16, and 19 for the table's count
abbrev pub opening_number : ℕ → Bool
opening_number n = eqb n bad_descriptor || (eqb n outside_memory || (eqb n bad_table || (eqb n bad_stream || eqb n too_many)))

-- those of a packet: 17 to 26, and 28 to 30
abbrev pub packet_number : ℕ → Bool
packet_number n = leb bad_packet n && (leb n bad_state && not (eqb n host_failed))

-- ---- an opening's rules, one after the other

abbrev pub OfOpening : Verdict → Type 0
OfOpening (Ok _) = 0 ≤ 0
OfOpening (Err r) = opening_number (error_number r) ≡ true

-- what an opening refuses a submission with
abbrev pub NumberedOpening : Opening → Type 0
NumberedOpening BadRing = 0 ≤ 0
NumberedOpening NoWork = 0 ≤ 0
NumberedOpening (Refused j r) = opening_number (error_number r) ≡ true
NumberedOpening (Started o) = 0 ≤ 0

-- ---- a packet's frame

abbrev pub Numbered : Verdict → Type 0
Numbered (Ok _) = 0 ≤ 0
Numbered (Err r) = packet_number (error_number r) ≡ true

abbrev pub NumberedFrame : Frame → Type 0
NumberedFrame (Ok (op, size)) = 0 ≤ 0
NumberedFrame (Err r) = packet_number (error_number r) ≡ true

-- ---- a packet

-- what a packet comes to is accepted, or refused with a number of a packet
unfoldable pub NumberedOutcome : Outcome → Type 0
NumberedOutcome o = Numbered o.verdict
