-- A rule and its number, and the place where it broke; the first broken rule decides.
use Rattle.std.specs.Prelude.{Bool, ℕ, ◌%◌, ◌^◌, ⊤, Result, Ok, Err}
use Rattle.machine.specs.Machine.{pick}
use Rattle.rules.specs.Numbers.{no_place, bad_ring, bad_descriptor, outside_memory, bad_table, bad_entry, twice_in_table, bad_stream, bad_packet, bad_handle, too_many, bad_shape, not_in_table, past_entry, read_only, past_resource, host_backed, bad_copy, host_failed, bad_token, unbound_token, bad_state}
use Rattle.rules.specs.declared.Refusal.{Refusal}
use Rattle.rules.specs.declared.Refusal.TheVariants.{BadRing, BadDescriptor, OutsideMemory, BadTable, BadEntry, TwiceInTable, BadStream, BadPacket, BadHandle, TooMany, BadShape, NotInTable, PastEntry, ReadOnly, PastResource, HostBacked, BadCopy, HostFailed, BadToken, UnboundToken, BadState}
use Rattle.rules.specs.declared.Fault.{Fault}

-- what a check comes to: no rule is broken, or this one
abbrev pub Verdict : Type 0
Verdict = Result ⊤ Refusal

-- this paper's number for a rule
abbrev pub error_number : Refusal → ℕ
error_number BadRing = bad_ring
error_number BadDescriptor = bad_descriptor
error_number OutsideMemory = outside_memory
error_number BadTable = bad_table
error_number BadEntry = bad_entry
error_number TwiceInTable = twice_in_table
error_number BadStream = bad_stream
error_number BadPacket = bad_packet
error_number BadHandle = bad_handle
error_number TooMany = too_many
error_number BadShape = bad_shape
error_number NotInTable = not_in_table
error_number PastEntry = past_entry
error_number ReadOnly = read_only
error_number PastResource = past_resource
error_number HostBacked = host_backed
error_number BadCopy = bad_copy
error_number HostFailed = host_failed
error_number BadToken = bad_token
error_number UnboundToken = unbound_token
error_number BadState = bad_state

-- the rule r, broken where the test holds
abbrev pub rule : Refusal → Bool → Verdict
rule r broken = pick broken (Err r) (Ok tt)

infixr 30 ◌▹◌
-- "checked in this order": the first of two that is broken
abbrev pub ◌▹◌ : Verdict → Verdict → Verdict
Ok _ ▹ later = later
Err r ▹ later = Err r

-- rules that are put only where the test holds
abbrev pub only : Bool → Verdict → Verdict
only wanted v = pick wanted v (Ok tt)

-- ---- where it broke: by wish 9, "each check must answer with its place as well as its number". A rule tells its number; the step that puts it
-- knows the place: the opening, the entry at its index, the packet at its offset.

-- what a step comes to: no rule is broken, or this one at its place
pub data Finding : Type 0 where
  fine : Finding
  broken : Fault → Finding

-- The register that shows a place has 32 bits. In memory that holds bytes neither a table's count nor a stream's size has more, so no place
-- is cut; the cut gives a meaning to made-up states too.
abbrev pub fault_at : ℕ → Refusal → Fault
fault_at place r = record { code = error_number r; place = place % 2 ^ 32 }

abbrev pub at_place : ℕ → Verdict → Finding
at_place place (Ok _) = fine
at_place place (Err r) = broken (fault_at place r)

-- "else 0"
abbrev pub without_place : Refusal → Fault
without_place r = fault_at no_place r

-- this paper's number for a finding: 0 means no error; and its place, which is 0 beside it
abbrev pub number : Finding → ℕ
number fine = 0
number (broken f) = f.code

abbrev pub place_of : Finding → ℕ
place_of fine = no_place
place_of (broken f) = f.place
