-- No theorem holds of nothing: the exports called over words and tables that are written out, with the small guests of the promises'
-- `Witness`. A device is made, its registers are written, a submission with an entry, a packet and a record is run, its record is asked for
-- and it is answered; and one is refused. Assumes nothing.
use Rattle.std.specs.Prelude.{◌≡◌, true, List, [], ◌∷◌, ◌++◌, ℕ, ◌+◌, ◌*◌, get_or}
use Rattle.std.proofs.Math.Path.{refl}
use Rattle.std.proofs.Common.{ap, arith}
use Rattle.machine.specs.Machine.{run_while}
use Rattle.rules.specs.Bytes.{le, bytes_of}
use Rattle.rules.specs.Lists.{over, nth, lookup}
use Rattle.rules.specs.Layouts.{ring_header, descriptor, table_header, entry, stream_header, buffer_fields, page_bytes}
use Rattle.rules.specs.Headers.{wrong_header}
use Rattle.rules.specs.Table.{header_rules, entry_rules, take_entry, entries_from, judge_entries}
use Rattle.rules.specs.Stream.{known, stream_rules, least_size, frame_rules, frame_of, packet_of, cut}
use Rattle.rules.specs.Ring.{descriptor_rules, range_rules, submission_rules, submission_opening, power_of_two, good_header, good_ring, ring_opening, opening_of}
use Rattle.rules.specs.Packets.{create_backed, create, on_buffer_packet, apply, target_after, tokens_after, pass, take_packet}
use Rattle.rules.specs.Settle.{faulted, signalled, ended_by, written, head_written, page_written, marked, settled}
use Rattle.rules.specs.Registers.{controlled, write_of}
use Rattle.rules.specs.Steps.{open_step, entry_step, packet_step, step, go, answered}
use Rattle.rules.specs.Unsliced.{judge_packets, submission, submitted}
use Rattle.rules.specs.Calls.{ending, call_write, call_run, call_record, answer_alone, call_answer}
use Rattle.rows.specs.Rows.{tab, row_at, table}
use Rattle.run_state.specs.Views.{count_in, token_count_in, world_in, rested}
use Rattle.device.specs.Views.{state_of, world_of}
use Rattle.device.specs.declared.Device.{Device}
use Rattle.promises.specs.NightLog.{zeros}
use Rattle.zelezmut.specs.Said.{SaysRun, SaysAnswer, SaysRecord}
use Rattle.register_writes.specs.Views.{Writes}
use Rattle.device_calls.specs.Views.{Makes}
use Rattle.promises_of_units.specs.Called.{Call}
use Rattle.promises_of_units.specs.Called.Call.{writes, runs, records, answers}
use Rattle.promises.specs.Witness.{in_bytes, ring_words, slot_words, table_words, entry_words, stream_words, guest, asking, begun, held, the_entry, awaiting, opening_alone}
use Rattle.promises.specs.StateWitness.{drawing_guest, drawing_asked, drawing_waits}
use Rattle.promises_of_calls.specs.OverLent.{lent_of}
use Rattle.promises_of_calls.specs.Exports.{returning, Gives, exports}
use Rattle.promises_of_calls.specs.Exports.Gives.{zelezmut-write, zelezmut-run, zelezmut-record, zelezmut-answer}
use Rattle.promises_of_calls.specs.Chains.{Chain, chain_on, chain-called, units_said, answers_taken}
use Rattle.promises_of_calls.specs.Chains.Chain.{no_call, call_then}
use Rattle.promises_of_calls.specs.Calls.{MadeAndCalled}
use Rattle.promises_of_calls.specs.Calls.MadeAndCalled.{made_one, called-one}

-- ---- words and tables

-- words 0 to 13 of a device for the guest of n entries, its ring at 0: the ring's size, whether it is enabled, the completed fence, the two
-- status bits, the last error's three numbers, the doorbell flag, the tag of what is in work; then the other words
abbrev pub words_of : ℕ → ℕ → ℕ → ℕ → ℕ → ℕ → ℕ → ℕ → ℕ → ℕ → ℕ → List ℕ → List ℕ
words_of n size enabled completed fenced failed code fence count rung tag more =
    (216 + n * 32) ∷ 0 ∷ size ∷ enabled ∷ 0 ∷ completed ∷ fenced ∷ failed ∷ 0 ∷ code ∷ fence ∷ count ∷ rung ∷ tag ∷ more

-- with empty tables
abbrev pub bare : List ℕ → Device
bare s = record { words = s; entries = zeros 256; first = zeros 768; second = zeros 768; firsttokens = zeros 512; secondtokens = zeros 512; records = zeros 320 }

-- just made, and after each of three register writes; the last is a device that the submission is asked of
unfoldable pub new_device : ℕ → Device
new_device n = bare (words_of n 0 0 0 0 0 0 0 0 0 0 (zeros 22))

unfoldable pub sized_device : ℕ → Device
sized_device n = bare (words_of n 128 0 0 0 0 0 0 0 0 0 (zeros 22))

unfoldable pub enabled_device : ℕ → Device
enabled_device n = bare (words_of n 128 1 0 0 0 0 0 0 0 0 (zeros 22))

unfoldable pub asking_device : ℕ → Device
asking_device n = bare (words_of n 128 1 0 0 0 0 0 0 1 0 (zeros 22))

-- its entry's row, its resource's in a table of its own, and its record's
abbrev pub with_rows : List ℕ → Device
with_rows s =
    record {
      words = s;
      entries = 5 ∷ 0 ∷ 64 ∷ 192 ∷ zeros 252;
      first = zeros 768;
      second = 1 ∷ 0 ∷ 32 ∷ 0 ∷ 0 ∷ 0 ∷ 0 ∷ 0 ∷ 0 ∷ 5 ∷ 16 ∷ 1 ∷ zeros 756;
      firsttokens = zeros 512;
      secondtokens = zeros 512;
      records = 1 ∷ 1 ∷ 5 ∷ 80 ∷ 32 ∷ zeros 315;
    }

-- it waits: its fence, and how many rows are live of its entry, its resource and its record
unfoldable pub waiting_device : Device
waiting_device = with_rows (words_of 1 128 1 0 0 0 0 0 0 1 3 (0 ∷ 0 ∷ 7 ∷ 0 ∷ 0 ∷ 0 ∷ 0 ∷ 0 ∷ 0 ∷ 0 ∷ 1 ∷ 0 ∷ 1 ∷ 1 ∷ 0 ∷ 1 ∷ 0 ∷ 0 ∷ 0 ∷ 0 ∷ 0 ∷ 0 ∷ []))

-- it was answered: fence 7 is completed, the resource is the device's, and no word is left of the work
unfoldable pub answered_device : Device
answered_device = with_rows (words_of 1 128 1 7 1 0 0 0 0 1 0 (0 ∷ 0 ∷ 0 ∷ 0 ∷ 0 ∷ 0 ∷ 0 ∷ 0 ∷ 0 ∷ 0 ∷ 0 ∷ 1 ∷ 0 ∷ 0 ∷ 1 ∷ 0 ∷ 0 ∷ 0 ∷ 0 ∷ 0 ∷ 0 ∷ 0 ∷ []))

-- the guest with its entry twice was refused with 15, at entry 1
unfoldable pub refused_device : Device
refused_device = bare (words_of 2 128 1 7 1 1 15 7 1 1 0 (0 ∷ 0 ∷ 0 ∷ 0 ∷ 0 ∷ 0 ∷ 0 ∷ 0 ∷ 0 ∷ 0 ∷ 0 ∷ 0 ∷ 0 ∷ 0 ∷ 0 ∷ 0 ∷ 1 ∷ 0 ∷ 0 ∷ 0 ∷ 0 ∷ 0 ∷ []))

-- the asking device and the waiting one are those of the promises' witness
pub asks : (n : ℕ) → world_of (asking_device n) (guest n) ≡ asking n
unfolding asking_device asking world_in count_in token_count_in tab row_at table zeros
asks n = refl

pub awaits : world_of waiting_device (guest 1) ≡ awaiting
unfolding waiting_device awaiting asking begun held the_entry world_in count_in token_count_in tab row_at table zeros
awaits = refl

pub has-answered : world_of answered_device (answered true awaiting).mem ≡ answered true awaiting
unfolding answered_device awaiting asking begun held the_entry world_in count_in token_count_in tab row_at table zeros answered settled ended_by signalled
has-answered = refl

-- ---- each call that is made of them

module _ (n : ℕ) where
  pub is_made : Makes (216 + n * 32) (new_device n).words
  unfolding new_device world_in count_in token_count_in tab row_at table zeros rested
  is_made = record { new = λ e a b ft st c. refl; rests = refl }

  pub writes-size : Writes (new_device n).words 0x108 128 0 (sized_device n).words
  unfolding new_device sized_device world_in count_in token_count_in tab row_at table zeros call_write write_of lookup
  writes-size = record { wrote = λ e x y ft st c. refl; still = λ z. absurd (z refl) }

  pub writes-control : Writes (sized_device n).words 0x10c 1 0 (enabled_device n).words
  unfolding sized_device enabled_device world_in count_in token_count_in tab row_at table zeros call_write write_of lookup controlled
  writes-control = record { wrote = λ e x y ft st c. refl; still = λ z. absurd (z refl) }

  pub writes-doorbell : Writes (enabled_device n).words 0x200 0 0 (asking_device n).words
  unfolding enabled_device asking_device world_in count_in token_count_in tab row_at table zeros call_write write_of lookup
  writes-doorbell = record { wrote = λ e x y ft st c. refl; still = λ z. absurd (z refl) }

-- a run of up to 65535 units ends waiting (1) after 3
pub runs-to-waiting : SaysRun 65535 (lent_of (asking_device 1) (guest 1)) (0 + (256 * 1 + 65536 * 3)) (lent_of waiting_device (guest 1))
unfolding asking_device waiting_device world_in count_in token_count_in tab row_at table zeros in_bytes ring_words slot_words table_words entry_words stream_words guest le bytes_of over lookup nth ring_header descriptor table_header entry stream_header buffer_fields page_bytes power_of_two good_header good_ring ring_opening opening_of descriptor_rules range_rules submission_rules submission_opening wrong_header header_rules stream_rules entry_rules take_entry known least_size frame_rules frame_of packet_of apply target_after tokens_after pass take_packet on_buffer_packet create create_backed open_step entry_step packet_step step go run_while call_run ending
runs-to-waiting = record { spent = refl; world = refl; still = λ z. absurd (z refl) }

-- and one of 3 units over the guest with its entry twice ends paused (2), having refused it
pub runs-to-refusal : SaysRun 3 (lent_of (asking_device 2) (guest 2)) (0 + (256 * 2 + 65536 * 3)) (lent_of refused_device (submitted (asking 2)).state.mem)
unfolding asking asking_device refused_device world_in count_in token_count_in tab row_at table zeros in_bytes ring_words slot_words table_words entry_words stream_words guest le bytes_of over lookup nth ring_header descriptor table_header entry stream_header buffer_fields page_bytes power_of_two good_header good_ring ring_opening opening_of descriptor_rules range_rules submission_rules submission_opening wrong_header header_rules stream_rules entry_rules take_entry known least_size frame_rules frame_of packet_of apply target_after tokens_after pass take_packet on_buffer_packet create create_backed open_step entry_step packet_step step go run_while call_run ending faulted signalled ended_by written head_written page_written marked settled submitted submission judge_entries entries_from judge_packets cut
runs-to-refusal = record { spent = refl; world = refl; still = λ z. absurd (z refl) }

-- the record
pub says-the-record : SaysRecord waiting_device.words waiting_device.records 0 0 (1 ∷ 1 ∷ 5 ∷ 80 ∷ 32 ∷ [])
unfolding waiting_device world_in count_in token_count_in tab row_at table zeros call_record nth
says-the-record = record { answer = λ e a b ft st. refl; range = λ e a b ft st. refl }

-- a good answer with an allowance of 0: it ends paused (2), since the doorbell flag is still set
pub takes-the-answer : SaysAnswer true 0 (lent_of waiting_device (guest 1)) (0 + (256 * 2 + 65536 * 0)) (lent_of answered_device (answered true awaiting).mem)
unfolding waiting_device answered_device world_in count_in token_count_in tab row_at table zeros awaiting asking begun in_bytes ring_words slot_words table_words entry_words stream_words guest bytes_of answer_alone call_answer answered settled ended_by signalled marked head_written page_written written over call_run run_while ending
takes-the-answer = record { spent = refl; world = refl; still = λ z. absurd (z refl) }

-- ---- chains of them

-- the registers written
abbrev pub beginning : List Call
beginning = writes 0x108 128 ∷ writes 0x10c 1 ∷ writes 0x200 0 ∷ []

-- the submission served: run, its record asked for, answered
abbrev pub serving : List Call
serving = runs 65535 ∷ records 0 ∷ answers true 0 ∷ []

unfoldable pub some_beginning : (n : ℕ) → Chain exports (new_device n) (guest n) beginning (asking_device n) (guest n)
unfolding new_device sized_device enabled_device asking_device
some_beginning n =
    call_then (returning 0) (zelezmut-write 0x108 128 0 (sized_device n).words (writes-size n))
    (call_then (returning 0) (zelezmut-write 0x10c 1 0 (enabled_device n).words (writes-control n))
    (call_then (returning 0) (zelezmut-write 0x200 0 0 (asking_device n).words (writes-doorbell n)) no_call))

unfoldable pub asks-record : Gives waiting_device (guest 1) (records 0) (record { number = 0; words = 1 ∷ 1 ∷ 5 ∷ 80 ∷ 32 ∷ [] }) waiting_device (guest 1)
asks-record = zelezmut-record 0 0 (1 ∷ 1 ∷ 5 ∷ 80 ∷ 32 ∷ []) says-the-record

unfoldable pub some_serving : Chain exports (asking_device 1) (guest 1) serving answered_device (answered true awaiting).mem
unfolding asking_device waiting_device answered_device
some_serving =
    call_then (returning (0 + (256 * 1 + 65536 * 3))) (zelezmut-run 65535 (0 + (256 * 1 + 65536 * 3)) waiting_device (guest 1) runs-to-waiting)
    (call_then (record { number = 0; words = 1 ∷ 1 ∷ 5 ∷ 80 ∷ 32 ∷ [] }) asks-record
    (call_then (returning (0 + (256 * 2 + 65536 * 0))) (zelezmut-answer 1 0 (0 + (256 * 2 + 65536 * 0)) answered_device (answered true awaiting).mem takes-the-answer) no_call))

-- its calls said 3 units, and the answer was taken
pub serving-says : (units_said some_serving ≡ 3) × (answers_taken some_serving ≡ true ∷ [])
unfolding some_serving units_said answers_taken
serving-says = (refl, refl)

-- and the device that waits was made and called, so that its record lies in its one entry
pub waiting-was-called : MadeAndCalled exports waiting_device
waiting-was-called =
    called-one (guest 1) (guest 1) (runs 65535) (returning (0 + (256 * 1 + 65536 * 3))) (zelezmut-run 65535 (0 + (256 * 1 + 65536 * 3)) waiting_device (guest 1) runs-to-waiting)
    (chain-called (some_beginning 1) (made_one 248 (is_made 1)))

-- from the new device on, with the register writes before it: one whole submission was served
pub some_chain : Chain exports (new_device 1) (guest 1) (beginning ++ serving) answered_device (answered true awaiting).mem
some_chain = chain_on (some_beginning 1) some_serving

-- a chain in which a submission is refused, and the night that it is
unfoldable pub some_refusal : Chain exports (asking_device 2) (guest 2) (runs 3 ∷ []) refused_device (submitted (asking 2)).state.mem
some_refusal =
    call_then (returning (0 + (256 * 2 + 65536 * 3)))
    (zelezmut-run 3 (0 + (256 * 2 + 65536 * 3)) refused_device (submitted (asking 2)).state.mem runs-to-refusal) no_call

-- ---- two devices that no call tells apart: other numbers in the words and rows that nothing reads

unfoldable pub scrawled_device : Device
scrawled_device =
    record {
      words = words_of 1 128 1 0 0 0 0 0 0 1 0 (7 ∷ 7 ∷ 7 ∷ 7 ∷ 7 ∷ 7 ∷ 7 ∷ 7 ∷ 7 ∷ 7 ∷ 7 ∷ 0 ∷ 7 ∷ 7 ∷ 0 ∷ 7 ∷ 0 ∷ 7 ∷ 0 ∷ 7 ∷ 0 ∷ 7 ∷ []);
      entries = 7 ∷ zeros 255;
      first = 7 ∷ zeros 767;
      second = 7 ∷ zeros 767;
      firsttokens = 7 ∷ zeros 511;
      secondtokens = 7 ∷ zeros 511;
      records = 7 ∷ zeros 319;
    }

pub one-state-of-two : state_of scrawled_device ≡ state_of (asking_device 1)
unfolding scrawled_device asking_device world_in count_in token_count_in tab row_at table zeros
one-state-of-two = refl

pub and-they-are-two : scrawled_device ≡ asking_device 1 → ⊥
unfolding scrawled_device asking_device zeros
and-they-are-two e = let z : ◌≡◌ {A = ℕ} 7 0 = ap (λ (d : Device). get_or d.entries 0 0) e in omega arith

-- ---- one unit of each, over two memories that differ: the second holds no byte but those that the opening reads

unfoldable pub opened_device : Device
opened_device = bare (words_of 1 128 1 0 0 0 0 0 0 1 1 (0 ∷ 0 ∷ 7 ∷ 0 ∷ 128 ∷ 1 ∷ 32 ∷ 184 ∷ 64 ∷ zeros 13))

pub opens : SaysRun 1 (lent_of (asking_device 1) (guest 1)) (0 + (256 * 2 + 65536 * 1)) (lent_of opened_device (guest 1))
unfolding asking_device opened_device world_in count_in token_count_in tab row_at table zeros in_bytes ring_words slot_words table_words entry_words stream_words guest le bytes_of ring_header descriptor table_header stream_header power_of_two good_header good_ring ring_opening opening_of descriptor_rules range_rules submission_rules submission_opening wrong_header header_rules stream_rules open_step step go run_while call_run ending
opens = record { spent = refl; world = refl; still = λ z. absurd (z refl) }

pub opens-alone : SaysRun 1 (lent_of scrawled_device opening_alone) (0 + (256 * 2 + 65536 * 1)) (lent_of opened_device opening_alone)
unfolding scrawled_device opened_device world_in count_in token_count_in tab row_at table zeros in_bytes ring_words slot_words table_words entry_words stream_words opening_alone le bytes_of ring_header descriptor table_header stream_header power_of_two good_header good_ring ring_opening opening_of descriptor_rules range_rules submission_rules submission_opening wrong_header header_rules stream_rules open_step step go run_while call_run ending
opens-alone = record { spent = refl; world = refl; still = λ z. absurd (z refl) }

-- ---- a device that waits with a clipped rectangle: its target stands in word 31

unfoldable pub drawing_device : Device
drawing_device =
    record {
      words = 316 ∷ 0 ∷ 128 ∷ 1 ∷ 0 ∷ 0 ∷ 0 ∷ 0 ∷ 0 ∷ 0 ∷ 0 ∷ 0 ∷ 1 ∷ 3 ∷ 0 ∷ 0 ∷ 7 ∷ 0 ∷ 0 ∷ 0 ∷ 0 ∷ 128 ∷ 188 ∷ 188 ∷ 0 ∷ 0 ∷ 1 ∷ 1 ∷ 0 ∷ 1 ∷ 0 ∷ 1 ∷ 0 ∷ 0 ∷ 0 ∷ 0 ∷ [];
      entries = zeros 256;
      first = zeros 768;
      second = 1 ∷ 1 ∷ 0 ∷ 1 ∷ 64 ∷ 32 ∷ 1 ∷ 1 ∷ 0 ∷ 0 ∷ 0 ∷ 1 ∷ zeros 756;
      firsttokens = zeros 512;
      secondtokens = zeros 512;
      records = 4 ∷ 0 ∷ 3 ∷ 15 ∷ 29 ∷ zeros 315;
    }

pub draws : world_of drawing_device drawing_guest ≡ drawing_waits
unfolding drawing_device drawing_waits drawing_asked world_in count_in token_count_in tab row_at table zeros
draws = refl

pub says-the-clip : SaysRecord drawing_device.words drawing_device.records 0 0 (4 ∷ 0 ∷ 3 ∷ 15 ∷ 29 ∷ [])
unfolding drawing_device world_in count_in token_count_in tab row_at table zeros call_record nth
says-the-clip = record { answer = λ e a b ft st. refl; range = λ e a b ft st. refl }
