-- The theorems of specs/Desk.antt, and what they rest on. Assumes nothing.
use Rattle.std.specs.Prelude.{◌≡◌, refl, Bool, true, false, ◌&&◌, ◌||◌, List, [], ◌∷◌, ℕ, ◌+◌, leb, eqb}
use Rattle.std.proofs.Common.{ap, ◌∙◌, inl, inr, arith, eqb-true}
use Rattle.machine.specs.Machine.{run_while}
use Rattle.rules.specs.Bytes.{le, bytes_of}
use Rattle.rules.specs.Lists.{over, nth, lookup}
use Rattle.rules.specs.Layouts.{head_offset, ring_header, descriptor, table_header, entry, stream_header, buffer_fields, page_bytes}
use Rattle.rules.specs.Headers.{wrong_header}
use Rattle.rules.specs.Table.{header_rules, entry_rules, take_entry}
use Rattle.rules.specs.Stream.{known, stream_rules, least_size, frame_rules, frame_of, packet_of}
use Rattle.rules.specs.PacketRows.{packet_row}
use Rattle.rules.specs.Ring.{descriptor_rules, range_rules, submission_rules, submission_opening, power_of_two, good_header, good_ring, ring_opening, opening_of}
use Rattle.rules.specs.Packets.{create_backed, create, on_buffer_packet, apply, target_after, pass, take_packet, tokens_after}
use Rattle.rules.specs.State.{World}
use Rattle.rules.specs.Settle.{faulted, signalled, doorbell_cleared, ended_by, written, head_written, page_written, marked, settled}
use Rattle.rules.specs.Steps.{open_step, entry_step, packet_step, step, go, answered}
use Rattle.rules.specs.Calls.{ending, call_run, call_record, answer_alone, call_answer}
use Rattle.rules.specs.Listed.{placed, Named, ranges_listed, slot_listed, opening_listed, entries_listed, packet_listed, packets_listed, submission_listed, packet_layout}
use Rattle.rules.specs.declared.Form.{Form}
use Rattle.rule_laws.specs.Fine.{both_left, both_right}
use Rattle.promises_of_packets.specs.Held.{Every}
use Rattle.promises_of_submissions.specs.Reads.{AgreeOn}
use Rattle.promises_of_submissions.specs.Locality.{lent}
use Rattle.promises_of_units.specs.Called.{after}
use Rattle.promises_of_leftovers.specs.Submissions.{run_openings, call_openings, openings, listed_there}
use Rattle.promises_of_leftovers.specs.Matter.{AgreeOnListed, SameResults}
use Rattle.promises_of_leftovers.proofs.Matter.{bytes-not-listed-cannot-matter}
use Rattle.promises_of_leftovers.specs.AskedOver.{asked_openings, SameResultsAsked}
use Rattle.promises_of_leftovers.proofs.AskedOver.{whatever-is-asked-bytes-not-listed-cannot-matter}
use Rattle.promises_of_leftovers.specs.Touch.{Untouched, TouchNoListed, AgreeInFirst}
use Rattle.promises_of_leftovers.specs.Desk.{agrees, agrees-true, agrees_each, all_untouched, apart, asked_night, desk, first-agrees, first-each-true, first-untouched, in_bytes, is_untouched, night, ring_words, rung, same_bytes, slot_words, stream_words, table_words, times}

-- ---- agreement, decided

agrees-each-true : (m m' : List ℕ) (vs : List World) → agrees_each m m' vs ≡ true → Every (λ (v : World). AgreeOn m m' (listed_there v)) vs
unfolding agrees_each Every
agrees-each-true m m' [] h = omega arith
agrees-each-true m m' (v ∷ vs) h = (agrees-true m m' (listed_there v) (both_left _ _ h), agrees-each-true m m' vs (both_right (agrees m m' (listed_there v)) _ h))

-- ---- the night over two desks

listed-agrees : (x y : ℕ) → agrees_each (desk x) (desk y) (openings night (lent rung (desk x))) ≡ true
unfolding in_bytes times ring_words slot_words table_words stream_words desk rung night same_bytes agrees agrees_each openings call_openings run_openings placed packet_layout ranges_listed slot_listed opening_listed entries_listed packet_listed packets_listed submission_listed le bytes_of over nth lookup ring_header descriptor table_header entry stream_header buffer_fields page_bytes wrong_header header_rules entry_rules take_entry known packet_row stream_rules least_size frame_rules frame_of packet_of descriptor_rules range_rules submission_rules submission_opening power_of_two good_header good_ring ring_opening opening_of create_backed create on_buffer_packet apply target_after pass take_packet tokens_after faulted signalled doorbell_cleared ended_by written head_written page_written marked settled open_step entry_step packet_step step go run_while answered ending call_run call_record answer_alone call_answer after
listed-agrees x y = refl

-- the two agree on all that is listed
pub desks-agree : (x y : ℕ) → AgreeOnListed night rung (desk x) (desk y)
unfolding in_bytes times ring_words slot_words table_words stream_words desk rung night bytes_of Every
desks-agree x y =
    record {
      as_long = refl;
      in_work = omega arith;
      opened = agrees-each-true (desk x) (desk y) (openings night (lent rung (desk x))) (listed-agrees x y);
    }

pub desks-are-told-alike : (x y : ℕ) → SameResults night rung (desk x) (desk y)
desks-are-told-alike x y = bytes-not-listed-cannot-matter night rung (desk x) (desk y) (desks-agree x y)

pub desks-are-told-alike-whatever-is-asked : (f : Form) (buffer b : List ℕ) (x y : ℕ) → SameResultsAsked (asked_night f buffer b) rung (desk x) (desk y)
unfolding night asked_night openings asked_openings
desks-are-told-alike-whatever-is-asked f buffer b x y =
    whatever-is-asked-bytes-not-listed-cannot-matter (asked_night f buffer b) rung (desk x) (desk y)
    (record { as_long = (desks-agree x y).as_long; in_work = (desks-agree x y).in_work; opened = (desks-agree x y).opened })

-- ---- and beyond its settlings: no listed byte but the head's own lies in the head or in the page, and they agree on what is listed in the desk as it was first lent

untouched-true : (ring page : ℕ) (f : Named) → is_untouched ring page f ≡ true → Untouched ring page f
unfolding is_untouched
untouched-true ring page f h = by_test (eqb f.at (ring + head_offset) && eqb f.width 4) refl h
  where
    by_test : (t : Bool) → eqb f.at (ring + head_offset) && eqb f.width 4 ≡ t
        → t || ((leb (f.at + f.width) (ring + head_offset) || leb (ring + head_offset + 4) f.at) && (leb (f.at + f.width) page || leb (page + 16) f.at)) ≡ true → Untouched ring page f
    by_test true e h =
        let a : f.at ≡ ring + head_offset = eqb-true f.at (ring + head_offset) (both_left _ _ e) in
        let w : f.width ≡ 4 = eqb-true f.width 4 (both_right (eqb f.at (ring + head_offset)) _ e) in
        inl (ap {B = Named} (λ (i : ℕ). record { at = i; width = f.width }) a ∙ ap {B = Named} (λ (n : ℕ). record { at = ring + head_offset; width = n }) w)
    by_test false e h = inr (apart f.at f.width (ring + head_offset) 4 (both_left _ _ h), inr (apart f.at f.width page 16 (both_right (leb (f.at + f.width) (ring + head_offset) || leb (ring + head_offset + 4) f.at) _ h)))

all-untouched-true : (ring page : ℕ) (fs : List Named) → all_untouched ring page fs ≡ true → Every (Untouched ring page) fs
unfolding all_untouched Every
all-untouched-true ring page [] h = omega arith
all-untouched-true ring page (f ∷ fs) h = (untouched-true ring page f (both_left _ _ h), all-untouched-true ring page fs (both_right (is_untouched ring page f) _ h))

pub desks-agree-at-first : (x y : ℕ) → AgreeInFirst night rung (desk x) (desk y)
unfolding in_bytes times ring_words slot_words table_words stream_words desk rung night bytes_of Every
desks-agree-at-first x y =
    record {
      as_long = refl;
      in_work = omega arith;
      opened = first-each-true (agrees (desk x) (desk y)) (AgreeOn (desk x) (desk y)) (agrees-true (desk x) (desk y)) (desk x) (openings night (lent rung (desk x))) (first-agrees x y);
    }

pub the-night-touches-no-listed-byte : (x : ℕ) → TouchNoListed night rung (desk x)
unfolding night rung Every
the-night-touches-no-listed-byte x =
    record {
      places = (omega arith, (omega arith, (omega arith, (omega arith, (omega arith, omega arith)))));
      on-ring = omega arith;
      untouched = first-each-true (all_untouched 0 400) (Every (Untouched 0 400)) (all-untouched-true 0 400) (desk x) (openings night (lent rung (desk x))) (first-untouched x);
    }
