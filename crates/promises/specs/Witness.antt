-- No theorem is vacuous: one small guest with a ring, a table and a stream, whose submission is accepted with a record, the same with its
-- entry twice in the table, which is refused with 15 at entry 1, with none, which is refused at its packet, and its packet with bytes
-- appended. Assumes nothing.
use Rattle.std.specs.Prelude.{◌≡◌, true, false, List, [], ◌∷◌, ◌++◌, ℕ, zero, suc, ◌+◌, ◌*◌, take, drop}
use Rattle.std.proofs.Math.Path.{refl}
use Rattle.std.proofs.Common.{subst}
use Rattle.machine.specs.Machine.{run_while}
use Rattle.rules.specs.Numbers.{ring_magic, table_magic, stream_magic, version, create_buffer, destroy}
use Rattle.rules.specs.Bytes.{le, bytes_of}
use Rattle.rules.specs.Lists.{over, nth, lookup}
use Rattle.rules.specs.Judging.Finding.{fine, broken}
use Rattle.rules.specs.Layouts.{word, long, ring_header, descriptor, table_header, entry, stream_header, buffer_fields, destroy_fields, page_bytes}
use Rattle.rules.specs.Headers.{wrong_header}
use Rattle.rules.specs.Table.{header_rules, entry_rules, take_entry, entries_from, judge_entries}
use Rattle.rules.specs.Stream.{known, stream_rules, least_size, frame_rules, frame_of, packet_of, cut, packets_of}
use Rattle.rules.specs.Ring.{descriptor_rules, range_rules, submission_rules, submission_opening, power_of_two, good_header, good_ring, ring_opening, opening_of}
use Rattle.rules.specs.Packets.{Progress, at_first, create_backed, create, on_buffer_packet, on_destroy_packet, apply, target_after, pass, take_packet, tokens_after}
use Rattle.rules.specs.State.{World, made, with_regs, registers_of, no_error, working, registering, nothing_owned}
use Rattle.rules.specs.State.Work.{waiting}
use Rattle.rules.specs.Settle.{faulted, signalled, ended_by, written, head_written, page_written, marked, settled, settled_keeping}
use Rattle.rules.specs.Registers.{write_of, register}
use Rattle.rules.specs.Steps.{open_step, entry_step, packet_step, step, go}
use Rattle.rules.specs.Unsliced.{judge_packets, submission, submitted}
use Rattle.rules.specs.Calls.{call_write, call_read, call_run, call_record}
use Rattle.rules.specs.declared.Entry.{Entry}
use Rattle.rules.specs.declared.Kind.TheVariants.{Buffer}
use Rattle.rules.specs.declared.Registers.{Registers}
use Rattle.rules.specs.declared.Stream.{Stream}
use Rattle.rules.specs.declared.Opened.{Opened}
use Rattle.rules.specs.declared.Opening.TheVariants.{Started}
use Rattle.promises.specs.NightLog.{zeros}
use Rattle.promises_of_submissions.specs.Locality.{over_moving}
use Rattle.promises_of_units.specs.InMemory.{Lies, made-lies, run-call-lies}
use Rattle.promises_of_units.specs.Called.{Call, after, after_all, units_of, units_of_all}
use Rattle.promises_of_units.specs.Called.Call.{writes, runs}

-- ---- the guest's memory, word by word; a u64 is its low word and then its high word

unfoldable pub in_bytes : List ℕ → List ℕ
in_bytes [] = []
in_bytes (w ∷ ws) = bytes_of 4 w ++ in_bytes ws

-- a ring of one slot, one submission pending
unfoldable pub ring_words : List ℕ
ring_words = ring_magic ∷ version ∷ 128 ∷ 1 ∷ 64 ∷ 0 ∷ 0 ∷ 1 ∷ zeros 8

-- its descriptor: a stream of 64 bytes, a table of n entries before it, signal fence 7
unfoldable pub slot_words : ℕ → List ℕ
slot_words n = 64 ∷ 0 ∷ 0 ∷ 0 ∷ (152 + n * 32) ∷ 0 ∷ 64 ∷ 0 ∷ 128 ∷ 0 ∷ (24 + n * 32) ∷ 0 ∷ 7 ∷ 0 ∷ 0 ∷ 0 ∷ []

unfoldable pub table_words : ℕ → List ℕ
table_words n = table_magic ∷ version ∷ (24 + n * 32) ∷ n ∷ 32 ∷ 0 ∷ []

-- n entries, all of them alike: id 5, 128 bytes at 64
unfoldable pub entry_words : ℕ → List ℕ
entry_words zero = []
entry_words (suc n) = 5 ∷ 0 ∷ 64 ∷ 0 ∷ 128 ∷ 0 ∷ 0 ∷ 0 ∷ entry_words n

-- one packet: create buffer, handle 1, 32 bytes, backing 5, offset 16
unfoldable pub stream_words : List ℕ
stream_words = stream_magic ∷ version ∷ 64 ∷ 0 ∷ 0 ∷ 0 ∷ create_buffer ∷ 40 ∷ 1 ∷ 0 ∷ 32 ∷ 0 ∷ 5 ∷ 16 ∷ 0 ∷ 0 ∷ []

unfoldable pub guest : ℕ → List ℕ
guest n = in_bytes (ring_words ++ (slot_words n ++ (table_words n ++ (entry_words n ++ stream_words))))

-- an enabled device whose doorbell was rung over it
unfoldable pub asking : ℕ → World
asking n =
    record {
      state = with_regs (registers_of 0 128 true 0 0 false false 0 no_error true) (made (216 + n * 32));
      mem = guest n;
    }

-- what its opening starts
unfoldable pub begun : ℕ → Opened
begun n =
    record {
      job = record { ring = 0; head = 0; signal = 7; silent = false };
      table = record { gpa = 128; count = n; stride = 32 };
      stream = record { gpa = 152 + n * 32; size = 64 };
    }

-- what is held after its packet: the buffer, and the record of the range that backs it; no target
unfoldable pub held : Progress
held =
    record {
      holdings = record {
        resources = record { handle = 1; kind = Buffer; bytes = 32; pitch = 0; backing = 5; offset = 16; lowest = 1 } ∷ [];
        records = record { kind = 1; handle = 1; id = 5; gpa = 80; length = 32 } ∷ [];
      };
      target = 0;
      tokens = [];
    }

unfoldable pub the_entry : Entry
the_entry = record { id = 5; flags = 0; gpa = 64; size = 128 }

-- the device that waits with it, its memory and registers as before
unfoldable pub awaiting : World
awaiting = working (waiting (begun 1).job (the_entry ∷ []) held) (asking 1)

-- three runs of one unit each, with doorbell writes between them
unfoldable pub ringing : List Call
ringing = runs 1 ∷ writes 0x200 0 ∷ runs 1 ∷ writes 0x200 1 ∷ runs 1 ∷ []

-- the same, with another ring address written after the opening, and a fence page at 32 before the last unit
unfoldable pub rewriting : List Call
rewriting = runs 1 ∷ writes 0x100 4096 ∷ runs 1 ∷ writes 0x120 32 ∷ runs 1 ∷ []

-- what the registers then are before the last unit
unfoldable pub rewritten : Registers
rewritten = registers_of 4096 128 true 32 0 false false 0 no_error true

-- ---- what the rules give of the two guests

pub record TwoGuests : Type 0 where
  -- with one entry: opened, judged fine after 3 units, and so it waits with one resource and one record
  pub one-starts : opening_of (guest 1) 0 128 ≡ Started (begun 1)
  pub one-is-fine : submission (guest 1) (begun 1) (at_first nothing_owned) ≡ record { finding = fine; held = held; units = 3 }
  pub accepted : submitted (asking 1) ≡ record { state = awaiting; units = 3 }
  pub handed_out : call_record awaiting.state 0 ≡ record { answer = 0; range = record { kind = 1; handle = 1; id = 5; gpa = 80; length = 32 } }
  -- with the same entry twice: opened, and refused with 15 after 3 units: error, fence and head are settled
  pub two-start : opening_of (guest 2) 0 128 ≡ Started (begun 2)
  pub two-are-refused : submission (guest 2) (begun 2) (at_first nothing_owned) ≡ record { finding = broken (record { code = 15; place = 1 }); held = at_first nothing_owned; units = 3 }
  pub refused : (submitted (asking 2)).units ≡ 3
  pub refused-registers : (submitted (asking 2)).state.state.regs ≡ registers_of 0 128 true 0 7 true true 0 (record { code = 15; fence = 7; count = 1; detail = 1 }) true
  pub refused-head : word (submitted (asking 2)).state.mem 24 ≡ 1
  -- the detail is read at 320: the second entry, counted from 0
  pub refused-detail : call_read (submitted (asking 2)).state.state 0x320 ≡ record { answer = 0; value = 1 }
  -- the same by calls, with doorbell writes between the units
  pub ringing-accepted : after_all ringing (asking 1) ≡ awaiting
  pub ringing-refused : after_all ringing (asking 2) ≡ (submitted (asking 2)).state
  pub ringing-units : (units_of_all ringing (asking 1) ≡ 3) × (units_of_all ringing (asking 2) ≡ 3)
  -- and with registers that matter written: the head goes to the ring that was opened, the fence to the page as it stands at the end
  pub rewriting-refused : after_all rewriting (asking 2) ≡ settled_keeping (begun 2).job (broken (record { code = 15; place = 1 })) (registering rewritten (asking 2))
  pub rewriting-head : word (after_all rewriting (asking 2)).mem 24 ≡ 1
  pub rewriting-page : long (after_all rewriting (asking 2)).mem 40 ≡ 7
  -- and by one run
  pub run-accepted : after (runs 65535) (asking 1) ≡ awaiting
  pub by_units : over_moving (guest 1 ∷ guest 1 ∷ guest 1 ∷ []) (asking 1).state ≡ awaiting.state

pub two_guests : TwoGuests
unfolding zeros in_bytes ring_words slot_words table_words entry_words stream_words guest asking begun held the_entry awaiting ringing rewriting rewritten le bytes_of over lookup nth ring_header descriptor table_header entry stream_header buffer_fields page_bytes power_of_two good_header good_ring ring_opening opening_of descriptor_rules range_rules submission_rules submission_opening wrong_header header_rules stream_rules entry_rules take_entry entries_from judge_entries known least_size frame_rules frame_of packet_of cut apply target_after tokens_after pass take_packet on_buffer_packet create create_backed judge_packets submission submitted faulted signalled ended_by written head_written page_written marked settled write_of open_step entry_step packet_step step go run_while call_write call_read register call_run call_record after after_all units_of units_of_all over_moving
two_guests =
    record {
      one-starts = refl;
      one-is-fine = refl;
      accepted = refl;
      handed_out = refl;
      two-start = refl;
      two-are-refused = refl;
      refused = refl;
      refused-registers = refl;
      refused-head = refl;
      refused-detail = refl;
      ringing-accepted = refl;
      ringing-refused = refl;
      ringing-units = (refl, refl);
      rewriting-refused = refl;
      rewriting-head = refl;
      rewriting-page = refl;
      run-accepted = refl;
      by_units = refl;
    }

-- ---- and where it broke, of two more: with no entry its packet is refused, with 65 its opening

pub record TwoMore : Type 0 where
  -- the packet's offset in the stream: the first stands behind the header
  pub none-starts : opening_of (guest 0) 0 128 ≡ Started (begun 0)
  pub none-is-refused : submission (guest 0) (begun 0) (at_first nothing_owned) ≡ record { finding = broken (record { code = 21; place = 24 }); held = at_first nothing_owned; units = 2 }
  pub none-detail : call_read (submitted (asking 0)).state.state 0x320 ≡ record { answer = 0; value = 24 }
  -- 19 of the table's count has no place
  pub many-are-refused : (submitted (asking 65)).state.state.regs.error ≡ record { code = 19; fence = 7; count = 1; detail = 0 }

pub two_more : TwoMore
unfolding zeros in_bytes ring_words slot_words table_words entry_words stream_words guest asking begun le bytes_of over lookup ring_header descriptor table_header stream_header buffer_fields power_of_two good_header good_ring ring_opening opening_of descriptor_rules range_rules submission_rules submission_opening wrong_header header_rules stream_rules entries_from judge_entries known least_size frame_rules frame_of packet_of cut apply target_after tokens_after pass on_buffer_packet create create_backed judge_packets submission submitted faulted signalled ended_by written head_written page_written marked settled register call_read
two_more = record { none-starts = refl; none-is-refused = refl; none-detail = refl; many-are-refused = refl }

-- ---- so the theorems speak of them

pub awaiting-lies : Lies awaiting.state
unfolding after asking
awaiting-lies = subst (λ (w : World). Lies w.state) two_guests.run-accepted (run-call-lies (asking 1) 65535 (made-lies 248))

-- ---- each unit of the accepted one, lent a memory that holds no byte but those that it reads

unfoldable pub opening_alone : List ℕ
opening_alone = in_bytes (ring_words ++ (slot_words 1 ++ (table_words 1 ++ (zeros 8 ++ (take 6 stream_words ++ zeros 10)))))

unfoldable pub entry_alone : List ℕ
entry_alone = in_bytes (zeros 38 ++ (entry_words 1 ++ zeros 16))

unfoldable pub packet_alone : List ℕ
packet_alone = in_bytes (zeros 52 ++ drop 6 stream_words)

-- ---- its packet and behind it one that breaks a rule, whose place is its own offset

unfoldable pub second_broken : List ℕ
second_broken = in_bytes (stream_magic ∷ version ∷ 80 ∷ 0 ∷ 0 ∷ 0 ∷ create_buffer ∷ 40 ∷ 1 ∷ 0 ∷ 32 ∷ 0 ∷ 5 ∷ 16 ∷ 0 ∷ 0 ∷ destroy ∷ 16 ∷ 2 ∷ 0 ∷ [])

pub second-packet-is-refused : judge_packets (the_entry ∷ []) (at_first nothing_owned) (packets_of second_broken (record { gpa = 0; size = 80 }))
    ≡ record { finding = broken (record { code = 18; place = 64 }); held = held; count = 2 }
unfolding second_broken held the_entry in_bytes le bytes_of lookup buffer_fields destroy_fields known least_size frame_rules frame_of packet_of cut apply target_after tokens_after pass on_buffer_packet on_destroy_packet create create_backed judge_packets
second-packet-is-refused = refl

-- ---- its packet once more, 8 bytes longer than its row: whatever two words are appended, the same record is made

unfoldable pub longer_stream : ℕ → ℕ → List ℕ
longer_stream a b = in_bytes (stream_magic ∷ version ∷ 72 ∷ 0 ∷ 0 ∷ 0 ∷ create_buffer ∷ 48 ∷ 1 ∷ 0 ∷ 32 ∷ 0 ∷ 5 ∷ 16 ∷ 0 ∷ 0 ∷ a ∷ b ∷ [])

abbrev pub longer : Stream
longer = record { gpa = 0; size = 72 }
