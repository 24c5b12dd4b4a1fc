-- The theorems of specs/CalledWitness.antt, and what they rest on. Assumes nothing.
use Rattle.std.specs.Prelude.{◌≡◌, refl, true, ℕ}
use Rattle.std.proofs.Common.{sym, ap, subst, ◌∙◌, arith}
use Rattle.machine.specs.Machine.{run_while}
use Rattle.rules.specs.Bytes.{le, bytes_of}
use Rattle.rules.specs.Headers.{wrong_header}
use Rattle.rules.specs.Layouts.{ring_header, descriptor, stream_header, texture_fields, export_fields, import_fields, release_fields}
use Rattle.rules.specs.Lists.{over, removed, nth, lookup, index_of}
use Rattle.rules.specs.Names.{rename, rebind, lowest_left}
use Rattle.rules.specs.Shapes.{block_bytes, halvings, full_chain, good_shape}
use Rattle.rules.specs.Packets.{create_hosted, create, on_texture_packet, on_export_packet, bound, on_import_packet, on_release_packet, apply, target_after, tokens_after, pass, take_packet}
use Rattle.rules.specs.Stream.{stream_rules, known, least_size, frame_rules, frame_of, packet_of}
use Rattle.rules.specs.Ring.{descriptor_rules, range_rules, submission_rules, submission_opening, power_of_two, good_header, good_ring, ring_opening, opening_of}
use Rattle.rules.specs.State.{State}
use Rattle.rules.specs.Steps.{open_step, packet_step, step, go, answered}
use Rattle.rules.specs.Settle.{doorbell_cleared, faulted, signalled, ended_by, head_written, page_written, marked, written, settled}
use Rattle.rules.specs.Calls.{call_run, answer_alone, call_answer}
use Rattle.rules.specs.Saved.{next_above, rising_above, rising, those, saved}
use Rattle.rules.specs.Loaded.{loaded_sections}
use Rattle.rules.specs.declared.Form.TheVariants.{Two}
use Rattle.promises_of_packets.specs.Held.{Every}
use Rattle.promises_of_saving.specs.SameDevice.{SameDevice}
use Rattle.promises_of_saving.specs.Savable.{Fits, Savable}
use Rattle.promises_of_saving.specs.LoadOfSave.{said}
use Rattle.promises_of_saving.proofs.LoadOfSave.{said-back, loaded-of-saved, saved-is-good, same_back}
use Rattle.promises_of_units.specs.Called.{Called, after}
use Rattle.promises_of_units.specs.Called.Call.{runs, answers}
use Rattle.promises_of_units.specs.Called.Called.{loads, calls}
use Rattle.promises_of_units.proofs.Ranges.{called-sound}
use Rattle.promises_of_same_desks.proofs.ForEver.{sound-is-savable}
use Rattle.promises_of_same_desks.proofs.DesksForEver.{same-devices-for-ever}
use Rattle.promises.specs.NightLog.{zeros}
use Rattle.promises.specs.Witness.{in_bytes}
use Rattle.promises.specs.StateWitness.{textured, stream_with}
use Rattle.promises.specs.SharedWitness.{exported, imported, released}
use Rattle.promises.specs.TwoSubmissions.{slot_at, first_program, two_programs, rung_with, rung}
use Rattle.promises.proofs.TwoSubmissions.{before_the_import_is_called}
use Rattle.promises.specs.CalledWitness.{SameNotEqual, both_done, first_name, fits-name, loaded_desk, served_desk}

-- ---- the desk after both submissions

served-is : both_done.state ≡ served_desk
unfolding served_desk slot_at first_program two_programs rung_with exported imported released textured stream_with zeros in_bytes le bytes_of over removed lookup index_of nth rename rebind lowest_left ring_header descriptor stream_header power_of_two good_header good_ring ring_opening opening_of descriptor_rules range_rules submission_rules submission_opening wrong_header stream_rules texture_fields export_fields import_fields release_fields known least_size frame_rules frame_of packet_of block_bytes halvings full_chain good_shape create_hosted create on_texture_packet on_export_packet bound on_import_packet on_release_packet apply target_after tokens_after pass take_packet open_step packet_step step go run_while call_run answer_alone call_answer answered settled marked page_written ended_by signalled head_written written faulted doorbell_cleared after
served-is = refl

pub served_desk_is_called : Called served_desk
served_desk_is_called =
    subst Called served-is
    (calls (answers true 0) (after (runs 65535) (after (answers true 1) (after (runs 65535) rung))).mem
    (calls (runs 65535) (after (answers true 1) (after (runs 65535) rung)).mem before_the_import_is_called))

-- ---- and the one that is loaded from its file

served-desk-fits : Fits served_desk
unfolding served_desk Every
served-desk-fits =
    record {
      memory = omega arith;
      regs = record {
        ring = omega arith;
        ringsize = omega arith;
        fencepage = omega arith;
        completed = omega arith;
        irqenable = omega arith;
        error = record { code = omega arith; fence = omega arith; count = omega arith; detail = omega arith };
      };
      resources = (fits-name 5 (omega arith), (fits-name 3 (omega arith), omega arith));
      tokens = (record { name = omega arith; token = omega arith }, omega arith);
    }

served-desk-is-savable : Savable served_desk
served-desk-is-savable = sound-is-savable served_desk (called-sound served_desk served_desk_is_called) served-desk-fits

pub loaded_desk_is_called : Called loaded_desk
loaded_desk_is_called = loads (saved Two served_desk) (saved-is-good Two served_desk served-desk-is-savable)

-- ---- they are the same, and not equal: the loaded one keeps name 3 before name 5

loaded-belongings-are : loaded_desk.belongings ≡ said Two served_desk
unfolding loaded_sections
loaded-belongings-are = ap (λ (s : State). s.belongings) (loaded-of-saved Two served_desk served-desk-is-savable) ∙ said-back Two served_desk served-desk-is-savable

pub two-called-desks-are-the-same-and-not-equal : SameNotEqual loaded_desk served_desk
unfolding served_desk next_above rising_above rising those
two-called-desks-are-the-same-and-not-equal =
    let same : SameDevice loaded_desk served_desk = same_back Two served_desk served-desk-is-savable refl refl in
    record {
      one_is_called = loaded_desk_is_called;
      other_is_called = served_desk_is_called;
      same = same;
      not_equal = λ e.
          let z : ◌≡◌ {A = ℕ} 3 5 = sym (ap first_name loaded-belongings-are) ∙ ap (λ (s : State). first_name s.belongings) e in
          omega arith;
      for-ever =
          same-devices-for-ever loaded_desk served_desk (called-sound loaded_desk loaded_desk_is_called) (called-sound served_desk served_desk_is_called) same;
    }
