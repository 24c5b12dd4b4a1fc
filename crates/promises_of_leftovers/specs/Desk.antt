-- No theorem is vacuous: a desk with two submissions in which each word that no field names is the same number x: in the gaps of every layout, between 64 and the ring's
-- stride, in the other entries' room, behind the table's header size, in an unknown packet's payload, in a known packet's gaps and appended field, past the stream size, and on the
-- fence page. Two such desks agree on all that is listed, whatever the two numbers; a night over them is told alike. Assumes nothing.
use Rattle.std.specs.Prelude.{◌≡◌, refl, Bool, true, false, ◌&&◌, ◌||◌, List, [], ◌∷◌, ◌++◌, ℕ, zero, suc, ◌+◌, ◌%◌, leb, eqb, length, take, drop, get_or}
use Rattle.std.proofs.Common.{ap, ◌∙◌, inl, inr, arith, eqb-true, leb-true}
use Rattle.machine.specs.Machine.{run_while}
use Rattle.rules.specs.Numbers.{ring_magic, table_magic, stream_magic, version, create_buffer}
use Rattle.rules.specs.Bytes.{le, bytes_of}
use Rattle.rules.specs.Lists.{over, nth, lookup}
use Rattle.rules.specs.Layouts.{head_offset, ring_header, descriptor, table_header, entry, stream_header, buffer_fields, page_bytes}
use Rattle.rules.specs.Headers.{wrong_header}
use Rattle.rules.specs.Table.{header_rules, entry_rules, take_entry}
use Rattle.rules.specs.Stream.{known, stream_rules, least_size, frame_rules, frame_of, packet_of}
use Rattle.rules.specs.PacketRows.{packet_row}
use Rattle.rules.specs.Ring.{descriptor_rules, range_rules, submission_rules, submission_opening, power_of_two, good_header, good_ring, ring_opening, opening_of}
use Rattle.rules.specs.Packets.{create_backed, create, on_buffer_packet, apply, target_after, pass, take_packet, tokens_after}
use Rattle.rules.specs.State.{State, World, made, with_regs, registers_of, no_error}
use Rattle.rules.specs.Settle.{faulted, signalled, doorbell_cleared, ended_by, written, head_written, page_written, marked, settled}
use Rattle.rules.specs.Steps.{open_step, entry_step, packet_step, step, go, answered}
use Rattle.rules.specs.Calls.{ending, call_run, call_record, answer_alone, call_answer}
use Rattle.rules.specs.Listed.{placed, Named, ranges_listed, slot_listed, opening_listed, entries_listed, packet_listed, packets_listed, submission_listed, packet_layout}
use Rattle.rules.specs.declared.Form.{Form}
use Rattle.rules.specs.declared.Ended.TheVariants.{Idle, Waiting, Paused}
use Rattle.settle.specs.Only.{Apart}
use Rattle.rule_laws.specs.Fine.{both_left, both_right}
use Rattle.promises_of_packets.specs.Held.{Every}
use Rattle.promises_of_submissions.specs.Reads.{AgreeOn}
use Rattle.promises_of_submissions.specs.Locality.{lent}
use Rattle.promises_of_units.specs.Called.{Call, after}
use Rattle.promises_of_units.specs.Called.Call.{runs, records, answers}
use Rattle.promises_of_units.specs.Asked.{Asked}
use Rattle.promises_of_units.specs.Asked.Asked.{calls, saves, loads, moves}
use Rattle.promises_of_units.specs.Replies.{reply_to, spending, handing}
use Rattle.promises_of_leftovers.specs.Submissions.{run_openings, call_openings, openings, listed_there}
use Rattle.promises_of_leftovers.specs.Matter.{replies_of, as_it_is}
use Rattle.promises_of_leftovers.specs.Beyond.{headed, listed_at_first}

-- ---- the desk, word by word

unfoldable pub in_bytes : List ℕ → List ℕ
in_bytes [] = []
in_bytes (w ∷ ws) = bytes_of 4 w ++ in_bytes ws

unfoldable pub times : ℕ → ℕ → List ℕ
times zero x = []
times (suc n) x = x ∷ times n x

-- at 0, a ring of two slots of 80 bytes, both pending
unfoldable pub ring_words : ℕ → List ℕ
ring_words x = ring_magic ∷ version ∷ 224 ∷ 2 ∷ 80 ∷ x ∷ 0 ∷ 2 ∷ times 8 x

-- a slot: stream and table, if there are such, and its fence
unfoldable pub slot_words : ℕ → ℕ → ℕ → ℕ → ℕ → ℕ → List ℕ
slot_words x cmd cmdsize table tablesize fence =
    64 ∷ 0 ∷ x ∷ x ∷ cmd ∷ 0 ∷ cmdsize ∷ x ∷ table ∷ 0 ∷ tablesize ∷ x ∷ fence ∷ 0 ∷ times 6 x

-- at 224, a table of one entry with stride 40, and 8 bytes behind its header size
unfoldable pub table_words : ℕ → List ℕ
table_words x = table_magic ∷ version ∷ 64 ∷ 1 ∷ 40 ∷ x ∷ 5 ∷ 0 ∷ 64 ∷ 0 ∷ 128 ∷ 0 ∷ x ∷ x ∷ x ∷ x ∷ x ∷ x ∷ []

-- at 296, a stream of 84 bytes in a range of 92: an unknown packet with 8 bytes of payload, and create buffer with a field appended
unfoldable pub stream_words : ℕ → List ℕ
stream_words x =
    stream_magic ∷ version ∷ 84 ∷ x ∷ x ∷ x ∷ 9999 ∷ 16 ∷ x ∷ x ∷ create_buffer ∷ 44 ∷ 1 ∷ x ∷ 32 ∷ 0 ∷ 5 ∷ 16 ∷ x ∷ x ∷ x ∷ x ∷ x ∷ []

-- and from 388 on nothing that is named: the fence page is at 400
unfoldable pub desk : ℕ → List ℕ
desk x =
    in_bytes (ring_words x ++ (slot_words x 296 92 224 72 7 ++ (slot_words x 0 0 0 0 8 ++ (table_words x ++ (stream_words x ++ times 7 x)))))

unfoldable pub rung : State
rung = with_regs (registers_of 0 224 true 400 0 false false 0 no_error true) (made 416)

-- two slices to where the first submission waits, its record, good and the second, failed and the empty ring
unfoldable pub night : List Call
night = runs 2 ∷ runs 9 ∷ records 0 ∷ answers true 8 ∷ answers false 8 ∷ []

-- ---- agreement, decided

unfoldable pub same_bytes : List ℕ → List ℕ → Bool
same_bytes [] [] = true
same_bytes [] (y ∷ ys) = false
same_bytes (x ∷ xs) [] = false
same_bytes (x ∷ xs) (y ∷ ys) = eqb x y && same_bytes xs ys

same-bytes-true : (xs ys : List ℕ) → same_bytes xs ys ≡ true → xs ≡ ys
unfolding same_bytes
same-bytes-true [] [] h = refl
same-bytes-true [] (y ∷ ys) h = absurd (let z : ◌≡◌ {A = ℕ} 0 1 = cc in omega arith)
same-bytes-true (x ∷ xs) [] h = absurd (let z : ◌≡◌ {A = ℕ} 0 1 = cc in omega arith)
same-bytes-true (x ∷ xs) (y ∷ ys) h =
    ap (λ (k : ℕ). k ∷ xs) (eqb-true x y (both_left _ _ h)) ∙ ap (λ (l : List ℕ). y ∷ l) (same-bytes-true xs ys (both_right (eqb x y) _ h))

unfoldable pub agrees : List ℕ → List ℕ → List Named → Bool
agrees m m' [] = true
agrees m m' (f ∷ fs) = same_bytes (take f.width (drop f.at m)) (take f.width (drop f.at m')) && agrees m m' fs

pub agrees-true : (m m' : List ℕ) (fs : List Named) → agrees m m' fs ≡ true → AgreeOn m m' fs
unfolding agrees Every
agrees-true m m' [] h = omega arith
agrees-true m m' (f ∷ fs) h = (same-bytes-true _ _ (both_left _ _ h), agrees-true m m' fs (both_right (same_bytes (take f.width (drop f.at m)) _) _ h))

unfoldable pub agrees_each : List ℕ → List ℕ → List World → Bool
agrees_each m m' [] = true
agrees_each m m' (v ∷ vs) = agrees m m' (listed_there v) && agrees_each m m' vs

-- ---- the night over two desks

-- what is told of it, whatever the number: a record and a resource among it
pub told-of-any : (x : ℕ) → replies_of as_it_is night (lent rung (desk x))
    ≡ spending 0 2 Paused ∷ spending 0 2 Waiting ∷ handing 0 (record { kind = 1; handle = 1; id = 5; gpa = 80; length = 32 }) ∷ spending 0 1 Waiting ∷ spending 0 1 Idle ∷ []
unfolding in_bytes times ring_words slot_words table_words stream_words desk rung night replies_of reply_to le bytes_of over nth lookup ring_header descriptor table_header entry stream_header buffer_fields page_bytes wrong_header header_rules entry_rules take_entry known stream_rules least_size frame_rules frame_of packet_of descriptor_rules range_rules submission_rules submission_opening power_of_two good_header good_ring ring_opening opening_of create_backed create on_buffer_packet apply target_after pass take_packet tokens_after faulted signalled doorbell_cleared ended_by written head_written page_written marked settled open_step entry_step packet_step step go run_while answered ending call_run call_record answer_alone call_answer after
told-of-any x = refl

-- and with a save and a move between its calls, of any form, buffers and file, and at its end a load of any file
unfoldable pub asked_night : Form → List ℕ → List ℕ → List Asked
asked_night f buffer b =
    calls (runs 2) []
    ∷ saves f buffer
    ∷ calls (runs 9) []
    ∷ calls (records 0) []
    ∷ moves b buffer
    ∷ calls (answers true 8) []
    ∷ calls (answers false 8) []
    ∷ loads b
    ∷ []

-- and yet they differ, in a byte of each kind: the ring header's gaps (20, 32), a slot's gaps (72, 92, 108, 120) and what its stride leaves (128, 208), the table header's gap
-- (244), an entry's last words (272) and what its stride leaves (280), behind the table's header size (288), the stream header's gaps (308), an unknown packet's payload (328), a
-- known one's gaps (348, 368) and its appended field (376), past the stream size (380), between all ranges (388), the fence page (400)
abbrev pub spare : List ℕ
spare = 20 ∷ 32 ∷ 72 ∷ 92 ∷ 108 ∷ 120 ∷ 128 ∷ 208 ∷ 244 ∷ 272 ∷ 280 ∷ 288 ∷ 308 ∷ 328 ∷ 348 ∷ 368 ∷ 376 ∷ 380 ∷ 388 ∷ 400 ∷ []

pub desks-differ : (x y : ℕ) → Every (λ (i : ℕ). (get_or (desk x) i 0 ≡ x % 256) × (get_or (desk y) i 0 ≡ y % 256)) spare
unfolding in_bytes times ring_words slot_words table_words stream_words desk rung night bytes_of Every
desks-differ x y = ((refl, refl), ((refl, refl), ((refl, refl), ((refl, refl), ((refl, refl), ((refl, refl), ((refl, refl), ((refl, refl), ((refl, refl), ((refl, refl), ((refl, refl), ((refl, refl), ((refl, refl), ((refl, refl), ((refl, refl), ((refl, refl), ((refl, refl), ((refl, refl), ((refl, refl), ((refl, refl), omega arith))))))))))))))))))))

-- ---- and beyond its settlings: no listed byte but the head's own lies in the head or in the page, and they agree on what is listed in the desk as it was first lent

unfoldable pub is_untouched : ℕ → ℕ → Named → Bool
is_untouched ring page f =
    (eqb f.at (ring + head_offset) && eqb f.width 4)
    || ((leb (f.at + f.width) (ring + head_offset) || leb (ring + head_offset + 4) f.at) && (leb (f.at + f.width) page || leb (page + 16) f.at))

pub apart : (i n at k : ℕ) → leb (i + n) at || leb (at + k) i ≡ true → Apart i n at k
apart i n at k h = by_test (leb (i + n) at) refl h
  where
    by_test : (t : Bool) → leb (i + n) at ≡ t → t || leb (at + k) i ≡ true → Apart i n at k
    by_test true e h = inl (leb-true (i + n) at e)
    by_test false e h = inr (leb-true (at + k) i h)

unfoldable pub all_untouched : ℕ → ℕ → List Named → Bool
all_untouched ring page [] = true
all_untouched ring page (f ∷ fs) = is_untouched ring page f && all_untouched ring page fs

unfoldable pub first_each : (List Named → Bool) → List ℕ → List World → Bool
first_each test m [] = true
first_each test m (v ∷ vs) = test (listed_at_first m v) && first_each test m vs

pub first-each-true : (test : List Named → Bool) (P : List Named → Type 0) → ((fs : List Named) → test fs ≡ true → P fs) → (m : List ℕ) (vs : List World) → first_each test m vs ≡ true
    → Every (λ (v : World). P (listed_at_first m v)) vs
unfolding first_each Every
first-each-true test P sound m [] h = omega arith
first-each-true test P sound m (v ∷ vs) h = (sound (listed_at_first m v) (both_left _ _ h), first-each-true test P sound m vs (both_right (test (listed_at_first m v)) _ h))

pub first-agrees : (x y : ℕ) → first_each (agrees (desk x) (desk y)) (desk x) (openings night (lent rung (desk x))) ≡ true
unfolding in_bytes times ring_words slot_words table_words stream_words desk rung night headed same_bytes agrees first_each openings call_openings run_openings placed packet_layout ranges_listed slot_listed opening_listed entries_listed packet_listed packets_listed submission_listed le bytes_of over nth lookup ring_header descriptor table_header entry stream_header buffer_fields page_bytes wrong_header header_rules entry_rules take_entry known packet_row stream_rules least_size frame_rules frame_of packet_of descriptor_rules range_rules submission_rules submission_opening power_of_two good_header good_ring ring_opening opening_of create_backed create on_buffer_packet apply target_after pass take_packet tokens_after faulted signalled doorbell_cleared ended_by written head_written page_written marked settled open_step entry_step packet_step step go run_while answered ending call_run call_record answer_alone call_answer after
first-agrees x y = refl

pub first-untouched : (x : ℕ) → first_each (all_untouched 0 400) (desk x) (openings night (lent rung (desk x))) ≡ true
unfolding in_bytes times ring_words slot_words table_words stream_words desk rung night headed is_untouched all_untouched first_each openings call_openings run_openings placed packet_layout ranges_listed slot_listed opening_listed entries_listed packet_listed packets_listed submission_listed le bytes_of over nth lookup ring_header descriptor table_header entry stream_header buffer_fields page_bytes wrong_header header_rules entry_rules take_entry known packet_row stream_rules least_size frame_rules frame_of packet_of descriptor_rules range_rules submission_rules submission_opening power_of_two good_header good_ring ring_opening opening_of create_backed create on_buffer_packet apply target_after pass take_packet tokens_after faulted signalled doorbell_cleared ended_by written head_written page_written marked settled open_step entry_step packet_step step go run_while answered ending call_run call_record answer_alone call_answer after
first-untouched x = refl
