-- The theorems of specs/TwoSubmissions.antt, and what they rest on. Assumes nothing.
use Rattle.std.specs.Prelude.{◌≡◌, refl, true, List, [], ◌∷◌, ◌++◌, ℕ}
use Rattle.std.proofs.Common.{sym, ap, subst, ◌∙◌, inl, inr, ⊎_elim, arith}
use Rattle.machine.specs.Machine.{run_while}
use Rattle.rules.specs.Bytes.{le, bytes_of}
use Rattle.rules.specs.Lists.{over, removed, nth, lookup, index_of}
use Rattle.rules.specs.Layouts.{ring_header, descriptor, stream_header, texture_fields, export_fields, import_fields, release_fields}
use Rattle.rules.specs.Shapes.{block_bytes, halvings, full_chain, good_shape}
use Rattle.rules.specs.Names.{rename, rebind, lowest_left}
use Rattle.rules.specs.Packets.{create_hosted, create, on_texture_packet, on_export_packet, bound, on_import_packet, on_release_packet, apply, target_after, tokens_after, pass, take_packet, at_first}
use Rattle.rules.specs.Stream.{stream_rules, known, least_size, frame_rules, frame_of, packet_of}
use Rattle.rules.specs.Headers.{wrong_header}
use Rattle.rules.specs.Ring.{descriptor_rules, range_rules, submission_rules, submission_opening, power_of_two, good_header, good_ring, ring_opening, opening_of}
use Rattle.rules.specs.Steps.{open_step, packet_step, step, go, answered}
use Rattle.rules.specs.Settle.{doorbell_cleared, faulted, signalled, ended_by, head_written, page_written, marked, written, settled}
use Rattle.rules.specs.Registers.{controlled, write_of}
use Rattle.rules.specs.Calls.{call_write, call_run, answer_alone, call_answer}
use Rattle.promises.specs.NightLog.{zeros}
use Rattle.promises_of_units.specs.Called.{Called, after}
use Rattle.promises_of_units.specs.Called.Call.{writes, runs, answers}
use Rattle.promises_of_units.specs.Called.Called.{makes, calls}
use Rattle.promises.specs.Witness.{in_bytes}
use Rattle.promises_of_sharing.specs.Shared.{means}
use Rattle.promises_of_sharing.specs.PacketsTaken.{Taken, Packets, packets_after_units, packets_after_call, packets_in_work, packets_since}
use Rattle.promises_of_sharing.specs.TokenLives.{Some, Exports, Spends, ImportAccepted}
use Rattle.promises_of_sharing.proofs.LaterImport.{a-later-import-is-accepted}
use Rattle.promises_of_sharing.specs.TokenMeans.{MeantAtExport, NamesTheExported}
use Rattle.promises_of_sharing.proofs.TokenMeans.{a-later-import-names-the-exported}
use Rattle.promises_of_packets.specs.Held.{Every}
use Rattle.promises.specs.StateWitness.{textured, stream_with}
use Rattle.promises.specs.SharedWitness.{exported, imported, released, named}
use Rattle.promises.specs.TwoSubmissions.{SameSurface, TwoSubmissions, after_first, after_second, answered-and-on, before_the_import, first_program, rung, rung_with, second_job, second_program_has, shared_token, slot_at, the_export, the_import, the_texture, two_programs}

-- ---- the memory: a ring of two slots, and the streams of the two programs

pub two_submissions : TwoSubmissions
unfolding slot_at first_program two_programs rung_with exported imported released textured stream_with zeros in_bytes le bytes_of over removed lookup index_of nth rename rebind lowest_left ring_header descriptor stream_header power_of_two good_header good_ring ring_opening opening_of descriptor_rules range_rules submission_rules submission_opening wrong_header stream_rules texture_fields export_fields import_fields release_fields known least_size frame_rules frame_of packet_of block_bytes halvings full_chain good_shape create_hosted create on_texture_packet on_export_packet bound on_import_packet on_release_packet apply target_after tokens_after pass take_packet open_step packet_step step go run_while call_run answer_alone call_answer answered settled marked page_written ended_by signalled head_written written faulted doorbell_cleared after
two_submissions =
    record {
      nothing_yet = refl;
      first_good = refl;
      second-begun = refl;
      second-waits = refl;
      second-good = refl;
      no-error-at-all = refl;
      both-fences = refl;
      first-failed = refl;
      released-then = refl;
    }

pub the-name-means-the-same-resource : SameSurface after_second
unfolding lookup
the-name-means-the-same-resource =
    record {
      means-the-same = refl;
      one = record { first = named 3 3; second = named 5 3; here = refl; there = refl; same = refl };
      token-is-bound = (record { name = 3; token = shared_token }, refl, λ z. omega arith);
    }

-- ---- so the theorems speak of it

pub rung_is_called : Called rung.state
unfolding rung_with after call_write write_of lookup controlled
rung_is_called = calls (writes 0x200 0) [] (calls (writes 0x10c 1) [] (calls (writes 0x108 192) [] (makes 344)))

pub before_the_import_is_called : Called before_the_import
before_the_import_is_called = calls (answers true 1) (after (runs 65535) rung).mem (calls (runs 65535) rung.mem rung_is_called)

-- the packets that count until then: the first program's texture and export, and none yet of the second's
abbrev pub counted : Packets
counted = packets_since rung.state before_the_import rung_is_called answered-and-on

pub those-that-count : (counted.by_good ≡ the_export ∷ the_texture ∷ []) × (counted.in_work ≡ [])
unfolding answered-and-on rung_is_called packets_in_work packets_since packets_after_call packets_after_units slot_at first_program two_programs rung_with exported imported textured stream_with zeros in_bytes le bytes_of over removed lookup index_of nth rename rebind lowest_left ring_header descriptor stream_header power_of_two good_header good_ring ring_opening opening_of descriptor_rules range_rules submission_rules submission_opening wrong_header stream_rules texture_fields export_fields import_fields known least_size frame_rules frame_of packet_of block_bytes halvings full_chain good_shape create_hosted create on_texture_packet on_export_packet bound on_import_packet apply target_after tokens_after pass take_packet open_step packet_step step go run_while call_run answer_alone call_answer answered settled marked page_written ended_by signalled head_written written faulted doorbell_cleared after
those-that-count = (refl, refl)

not-spent : Some (Spends shared_token) (counted.in_work ++ counted.by_good) → ⊥
unfolding Some
not-spent h =
    none-spends (subst (λ (l : List Taken). Some (Spends shared_token) l) (ap (λ (l : List Taken). counted.in_work ++ l) those-that-count.0)
    h)
  where
    none-spends : Some (Spends shared_token) (counted.in_work ++ (the_export ∷ the_texture ∷ [])) → ⊥
    none-spends k = in_two (subst (λ (l : List Taken). Some (Spends shared_token) (l ++ (the_export ∷ the_texture ∷ []))) those-that-count.1 k)
      where
        in_two : Some (Spends shared_token) (the_export ∷ the_texture ∷ []) → ⊥
        in_two (inl (inl e)) = let z : ◌≡◌ {A = ℕ} 0 1 = cc in omega arith
        in_two (inl (inr d)) = let e = d.is in let z : ◌≡◌ {A = ℕ} 0 1 = cc in omega arith
        in_two (inr (inl (inl e))) = let z : ◌≡◌ {A = ℕ} 0 1 = cc in omega arith
        in_two (inr (inl (inr d))) = let e = d.is in let z : ◌≡◌ {A = ℕ} 0 1 = cc in omega arith
        in_two (inr (inr n)) = n

-- the second program's import is accepted at its packet, by the theorem
pub the-import-is-accepted : ImportAccepted [] (at_first after_first) the_import
unfolding Some lookup
the-import-is-accepted =
    ⊎_elim (λ x. x) (λ x. absurd (not-spent x))
    (a-later-import-is-accepted rung.state before_the_import rung_is_called before_the_import_is_called answered-and-on second_job (record { gpa = 296; size = 48 }) 24 [] (at_first after_first)
    two_submissions.second-begun the_import (inr (subst (λ (l : List Taken). Some (Exports shared_token) l) (sym those-that-count.0) (inl (5, refl))))
    (λ z. omega arith) refl (omega arith))

pub the-import-names-the-exported-texture : means 3 second_program_has ≡ means 5 (named 5 5 ∷ [])
unfolding Every
the-import-names-the-exported-texture =
    let names : NamesTheExported shared_token 3 (counted.in_work ++ counted.by_good) rung.state.belongings second_program_has =
    a-later-import-names-the-exported rung.state before_the_import rung_is_called before_the_import_is_called answered-and-on second_job (record { gpa = 296; size = 48 }) 24 [] (at_first after_first)
    two_submissions.second-begun the_import the-import-is-accepted.accepted in
    let those : counted.in_work ++ counted.by_good ≡ the_export ∷ the_texture ∷ [] =
    ap (λ (l : List Taken). l ++ counted.by_good) those-that-count.1 ∙ those-that-count.0 in
    (subst (λ (l : List Taken). Every (MeantAtExport (means 3 second_program_has) shared_token) l) those names.exported-since).0 (5, refl)
