-- The theorems of specs/Witness.antt, and what they rest on. Assumes nothing.
use Rattle.std.specs.Prelude.{◌≡◌, true, [], ◌∷◌, ℕ, ◌+◌, ◌*◌}
use Rattle.std.proofs.Math.Path.{refl, ap}
use Rattle.std.proofs.Common.{sym, subst, ◌∙◌}
use Rattle.machine.specs.Machine.{run_while}
use Rattle.rules.specs.Numbers.{create_buffer, create_buffer_size}
use Rattle.rule_laws.specs.Frames.{same-packet}
use Rattle.rules.specs.Bytes.{le, bytes_of}
use Rattle.rules.specs.Lists.{lookup}
use Rattle.rules.specs.Judging.Finding.{fine, broken}
use Rattle.rules.specs.Layouts.{ring_header, descriptor, table_header, entry, stream_header, buffer_fields}
use Rattle.rules.specs.Headers.{wrong_header}
use Rattle.rules.specs.Table.{header_rules, entry_id, entry_rules, take_entry, entries_from, entries_of}
use Rattle.rules.specs.Stream.{known, stream_rules, least_size, frame_rules, frame_of, packet_of, cut, packets_of}
use Rattle.rules.specs.Ring.{descriptor_rules, range_rules, submission_rules, submission_opening, power_of_two, good_header, good_ring, ring_opening, opening_of}
use Rattle.rules.specs.Packets.{at_first, create_backed, create, on_buffer_packet, apply, target_after, pass, tokens_after}
use Rattle.rules.specs.State.{World, working, registering, nothing_owned}
use Rattle.rules.specs.Settle.{settled_keeping}
use Rattle.rules.specs.Registers.{controlled, write_of}
use Rattle.rules.specs.Steps.{entries_at, open_step, entry_step, step, go}
use Rattle.rules.specs.Unsliced.{Submission, judge_packets, submission, finished}
use Rattle.rules.specs.Calls.{call_write, call_run}
use Rattle.rules.specs.declared.Registers.{Registers}
use Rattle.rules.specs.declared.Opening.TheVariants.{Started}
use Rattle.rows.specs.Keys.{Once}
use Rattle.promises_of_packets.specs.Held.{Every, Inside}
use Rattle.promises.specs.NightLog.{zeros}
use Rattle.promises_of_submissions.specs.Submission.{LiesOn}
use Rattle.promises_of_submissions.proofs.Submission.{opening-lies}
use Rattle.promises_of_submissions.specs.LocalBytes.{Agree}
use Rattle.promises_of_submissions.specs.Locality.{after_one, over_moving, SameWhenRead}
use Rattle.promises_of_submissions.proofs.MovingMemory.{moving-memory-reads-only}
use Rattle.promises_of_submissions.specs.Locality.SameWhenRead.{ends, unit}
use Rattle.promises_of_submissions.proofs.Appended.{appended-bytes-cannot-matter}
use Rattle.promises_of_submissions.specs.Appended.SameButAppended.{packet, ends as stream-ends}
use Rattle.promises_of_units.specs.Sound.{SoundState}
use Rattle.promises_of_units.proofs.Sound.{made-sound, waiting-ranges-inside}
use Rattle.promises_of_units.specs.InMemory.{RangeEndsIn}
use Rattle.promises_of_units.proofs.InMemory.{waiting-ranges-in-memory}
use Rattle.promises_of_units.proofs.Refused.{run-call-keeps-sound}
use Rattle.promises_of_submissions.specs.AnyRegisters.{under}
use Rattle.promises_of_submissions.proofs.AnyRegisters.{writes-between-units}
use Rattle.promises_of_units.specs.Called.{Called, after}
use Rattle.promises_of_units.specs.Called.Call.{writes, runs}
use Rattle.promises_of_units.specs.Called.Called.{makes, calls}
use Rattle.promises.specs.Witness.{asking, awaiting, awaiting-lies, begun, entry_alone, entry_words, guest, held, in_bytes, longer, longer_stream, opening_alone, packet_alone, ring_words, slot_words, stream_words, table_words, the_entry, two_guests}

-- ---- so the theorems speak of them

-- such a device comes from a new one by three register writes
pub asking_is_called : (n : ℕ) → Called (asking n).state
unfolding asking after call_write write_of lookup controlled
asking_is_called n = calls (writes 0x200 0) [] (calls (writes 0x10c 1) [] (calls (writes 0x108 128) [] (makes (216 + n * 32))))

-- and the one that waits by a run more
pub awaiting_is_called : Called awaiting.state
awaiting_is_called = subst (λ (w : World). Called w.state) two_guests.run-accepted (calls (runs 65535) (asking 1).mem (asking_is_called 1))

-- its record lies inside its entry and in memory, by the theorems of ranges
awaiting-is-sound : SoundState awaiting.state
unfolding after asking
awaiting-is-sound =
    subst (λ (w : World). SoundState w.state) two_guests.run-accepted
    (run-call-keeps-sound (asking 1) 65535 (record { belongings = (made-sound 248).belongings; work = (made-sound 248).work; error = (made-sound 248).error }))

pub its-record-lies-inside : Every (Inside (the_entry ∷ [])) held.holdings.records × Once entry_id (the_entry ∷ [])
unfolding awaiting
its-record-lies-inside = waiting-ranges-inside awaiting.state (begun 1).job (the_entry ∷ []) held awaiting-is-sound refl

pub its-record-lies-in-memory : Every (RangeEndsIn 248) held.holdings.records
unfolding awaiting asking
its-record-lies-in-memory = waiting-ranges-in-memory awaiting.state (begun 1).job (the_entry ∷ []) held awaiting-is-sound awaiting-lies refl

-- the two units after the opening, each under any registers: what the unsliced rules say, by the registers of the last
module _ (r q : Registers) (on : q.enabled ≡ true) where
  under-registers : (n : ℕ) (s : Submission) → opening_of (guest n) 0 128 ≡ Started (begun n) → submission (guest n) (begun n) (at_first nothing_owned) ≡ s → s.units ≡ 3
      → under (r ∷ []) q (working (entries_at (begun n) [] nothing_owned) (asking n))
      ≡ finished (registering q (asking n)) (begun n).job (entries_of (guest n) (begun n).table) s.held s.finding
  unfolding asking
  under-registers n s starts judged three =
      writes-between-units (asking n) (begun n) (subst (LiesOn (guest n)) starts (opening-lies (guest n) 0 128)) (r ∷ []) q on
      (sym (ap (λ (x : Submission). x.units) judged ∙ three))
      ∙ ap (λ (x : Submission). finished (registering q (asking n)) (begun n).job (entries_of (guest n) (begun n).table) x.held x.finding) judged

  pub any-registers-accepted : under (r ∷ []) q (working (entries_at (begun 1) [] nothing_owned) (asking 1)) ≡ registering q awaiting
  unfolding awaiting the_entry begun guest in_bytes ring_words slot_words table_words entry_words stream_words zeros le bytes_of entry entries_from
  any-registers-accepted = under-registers 1 _ two_guests.one-starts two_guests.one-is-fine refl

  pub any-registers-refused : under (r ∷ []) q (working (entries_at (begun 2) [] nothing_owned) (asking 2))
      ≡ settled_keeping (begun 2).job (broken (record { code = 15; place = 1 })) (registering q (asking 2))
  any-registers-refused = under-registers 2 _ two_guests.two-start two_guests.two-are-refused refl

-- ---- each unit of the accepted one, lent a memory that holds no byte but those that it reads

pub read_alone : SameWhenRead (asking 1).state (guest 1 ∷ guest 1 ∷ guest 1 ∷ []) (opening_alone ∷ entry_alone ∷ packet_alone ∷ [])
unfolding opening_alone entry_alone packet_alone zeros in_bytes ring_words slot_words table_words entry_words stream_words guest asking le bytes_of lookup ring_header descriptor table_header entry stream_header power_of_two good_header good_ring ring_opening opening_of descriptor_rules range_rules submission_rules submission_opening wrong_header header_rules stream_rules entry_rules take_entry known least_size frame_rules frame_of open_step entry_step step go run_while call_run
read_alone =
    unit {s = (asking 1).state} (guest 1) opening_alone refl
    (λ _. record { header = λ _ _. refl; pending = λ _ _. record { slot = refl; ranges = λ _ _. record { table = λ _. refl; stream = λ _ _. refl } } })
    (unit {s = after_one (asking 1).state (guest 1)} (guest 1) entry_alone refl (λ _. refl)
    (unit {s = after_one (after_one (asking 1).state (guest 1)) (guest 1)} (guest 1) packet_alone refl
    (λ _. record { header = λ _. refl; packet = λ op size e. let is : create_buffer ≡ op = (same-packet create_buffer create_buffer_size op size e).0 in subst (λ (n : ℕ). Agree (guest 1) packet_alone 208 (least_size n)) is refl })
    ends))

-- and so it waits with the same entry, resource and record
pub moved-and-accepted : over_moving (opening_alone ∷ entry_alone ∷ packet_alone ∷ []) (asking 1).state ≡ awaiting.state
moved-and-accepted =
    sym (moving-memory-reads-only (asking 1).state (guest 1 ∷ guest 1 ∷ guest 1 ∷ []) (opening_alone ∷ entry_alone ∷ packet_alone ∷ []) read_alone)
    ∙ two_guests.by_units

-- ---- its packet once more, 8 bytes longer than its row: whatever two words are appended, the same record is made

pub appended-and-accepted : (a b : ℕ)
    → judge_packets (the_entry ∷ []) (at_first nothing_owned) (packets_of (longer_stream a b) longer) ≡ record { finding = fine; held = held; count = 1 }
unfolding longer_stream held the_entry in_bytes le bytes_of lookup buffer_fields known least_size frame_rules frame_of packet_of cut apply target_after tokens_after pass on_buffer_packet create create_backed judge_packets
appended-and-accepted a b =
    appended-bytes-cannot-matter (longer_stream a b) (longer_stream 0 0) longer longer refl (packet create_buffer 48 refl refl refl stream-ends) (the_entry ∷ []) (at_first nothing_owned)
