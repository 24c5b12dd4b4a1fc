-- The theorems of specs/SharedWitness.antt, and what they rest on. Assumes nothing.
use Rattle.std.specs.Prelude.{◌≡◌, refl, Bool, true, false, [], ◌∷◌}
use Rattle.std.proofs.Common.{sym, ap, subst, arith}
use Rattle.machine.specs.Machine.{run_while}
use Rattle.rules.specs.Bytes.{le, bytes_of}
use Rattle.rules.specs.Lists.{over, removed, nth, lookup, index_of}
use Rattle.rules.specs.Layouts.{ring_header, descriptor, stream_header, texture_fields, destroy_fields, export_fields, import_fields}
use Rattle.rules.specs.Shapes.{block_bytes, halvings, full_chain, good_shape}
use Rattle.rules.specs.Names.{rename, rebind, lowest_left, token_of}
use Rattle.rules.specs.Packets.{create_hosted, create, on_texture_packet, on_destroy_packet, on_export_packet, bound, on_import_packet, apply, target_after, tokens_after, pass, take_packet, Belongings}
use Rattle.rules.specs.Stream.{stream_rules, known, least_size, frame_rules, frame_of, packet_of, cut}
use Rattle.rules.specs.Headers.{wrong_header}
use Rattle.rules.specs.Table.{entries_from, judge_entries}
use Rattle.rules.specs.Ring.{descriptor_rules, range_rules, submission_rules, submission_opening, power_of_two, good_header, good_ring, ring_opening, opening_of}
use Rattle.rules.specs.State.{World, State}
use Rattle.rules.specs.Steps.{open_step, packet_step, step, go, answered}
use Rattle.rules.specs.Settle.{faulted, signalled, ended_by, head_written, page_written, marked, written, settled}
use Rattle.rules.specs.Unsliced.{judge_packets, submission, submitted}
use Rattle.rules.specs.Registers.{controlled, write_of, reset}
use Rattle.rules.specs.Calls.{call_write, call_run, answer_alone, call_answer}
use Rattle.rules.specs.declared.Kind.TheVariants.{Texture}
use Rattle.promises.specs.NightLog.{zeros}
use Rattle.promises_of_units.specs.Called.{Called, after}
use Rattle.promises_of_units.specs.Called.Call.{writes, runs, answers}
use Rattle.promises_of_units.specs.Called.Called.{makes, calls}
use Rattle.promises.specs.Witness.{in_bytes, ring_words}
use Rattle.promises_of_sharing.specs.Shared.{Used, IsBound, NameOf, OneMipOneLayer}
use Rattle.promises_of_sharing.specs.TokensOverCalls.{CalledOn}
use Rattle.promises_of_sharing.proofs.TokensOverCalls.{tokens-go-on-between-resets, bound-is-one-mip-one-layer}
use Rattle.promises_of_sharing.specs.NamesKept.{NotAmong}
use Rattle.promises_of_sharing.specs.NamesOverCalls.{names_after_units, Names, names_after_call, names_since}
use Rattle.promises_of_sharing.proofs.NamesOverCalls.{a-bound-token-keeps-its-names-between-resets}
use Rattle.promises.specs.StateWitness.{textured, destroyed, stream_with, the_shape}
use Rattle.promises.specs.SharedWitness.{SharingGuest, answered-on, exported, imported, named, shared, sharing, sharing_asked, sharing_guest, sharing_waits, the_token}

-- ---- a guest that sends this, with no table: the host's answer makes the name and the token the device's

pub sharing_guest_is : SharingGuest
unfolding exported imported shared textured destroyed stream_with sharing sharing_guest sharing_asked sharing_waits zeros ring_words in_bytes le bytes_of over removed lookup index_of nth rename rebind lowest_left ring_header descriptor stream_header power_of_two good_header good_ring ring_opening opening_of descriptor_rules range_rules submission_rules submission_opening wrong_header stream_rules texture_fields destroy_fields export_fields import_fields entries_from judge_entries known least_size frame_rules frame_of packet_of cut block_bytes halvings full_chain good_shape create_hosted create on_texture_packet on_destroy_packet on_export_packet bound on_import_packet apply target_after tokens_after pass take_packet judge_packets submission submitted open_step packet_step step go run_while call_write write_of controlled reset call_run answer_alone call_answer answered settled marked page_written ended_by signalled head_written written faulted after
sharing_guest_is = record { accepted = refl; run-accepted = refl; none_yet = refl; good = refl; failed = refl; forgotten = refl }

-- ---- so the theorems speak of it

pub asked_is_called : Called sharing_asked.state
unfolding sharing_asked after call_write write_of lookup controlled
asked_is_called = calls (writes 0x200 0) [] (calls (writes 0x10c 1) [] (calls (writes 0x108 128) [] (makes 272)))

waits_is_called : Called sharing_waits.state
waits_is_called = subst (λ (w : World). Called w.state) sharing_guest_is.run-accepted (calls (runs 65535) sharing_asked.mem asked_is_called)

pub answered_is_called : Called (after (answers true 0) sharing_waits).state
answered_is_called = calls (answers true 0) sharing_waits.mem waits_is_called

-- the device's token is of a texture of one mip and one layer
pub its_texture : OneMipOneLayer (Texture the_shape)
unfolding bound lookup
its_texture =
    bound-is-one-mip-one-layer (after (answers true 0) sharing_waits).state answered_is_called the_token (named 3 3)
    (ap (λ (b : Belongings). bound the_token b.tokens b.resources) sharing_guest_is.good)

-- and is used for as long as no reset comes
pub its-token-stays-used : (t : State) → CalledOn (after (answers true 0) sharing_waits).state t → Used the_token t.belongings.tokens
unfolding lookup
its-token-stays-used t q =
    (tokens-go-on-between-resets (after (answers true 0) sharing_waits).state t answered_is_called q).used the_token
    (record { name = 3; token = the_token }, ap (λ (b : Belongings). lookup token_of the_token b.tokens) sharing_guest_is.good)

-- and 3 is a name of its resource for as long as it is bound, and no submission answered good imports or destroys 3
pub its-name-stays : (t : State) (q : CalledOn (after (answers true 0) sharing_waits).state t)
    → NotAmong 3 (names_since (after (answers true 0) sharing_waits).state t answered_is_called q).by_good → IsBound the_token t.belongings.tokens
    → NameOf the_token 3 t.belongings.tokens t.belongings.resources
unfolding lookup
its-name-stays t q other b =
    let first : State = (after (answers true 0) sharing_waits).state in
    let n : NameOf the_token 3 first.belongings.tokens first.belongings.resources =
    subst (λ (x : Belongings). NameOf the_token 3 x.tokens x.resources) (sym sharing_guest_is.good)
    (record { what = record { name = 3; token = the_token }; used = refl; bound-one = λ z. omega arith; resource = named 3 3; here = refl; same = refl }) in
    ((a-bound-token-keeps-its-names-between-resets first t answered_is_called q).keeps the_token 3 other (n.what, n.used, n.bound-one) b).0 n

-- ---- the names that count: of this submission 3, which it imports, and 5, which it destroys, with "good"; none with "failed"

abbrev pub counted : Bool → Names
counted good = names_since sharing_asked.state (after (answers good 0) (after (runs 65535) sharing_asked)).state asked_is_called (answered-on good)

pub names-count-with-good : ((counted true).by_good ≡ 5 ∷ 3 ∷ []) × ((counted false).by_good ≡ [])
unfolding answered-on names_since names_after_call names_after_units exported imported shared textured destroyed stream_with sharing sharing_guest sharing_asked zeros ring_words in_bytes le bytes_of over removed lookup index_of nth rename rebind lowest_left ring_header descriptor stream_header power_of_two good_header good_ring ring_opening opening_of descriptor_rules range_rules submission_rules submission_opening wrong_header stream_rules texture_fields destroy_fields export_fields import_fields known least_size frame_rules frame_of packet_of block_bytes halvings full_chain good_shape create_hosted create on_texture_packet on_destroy_packet on_export_packet bound on_import_packet apply target_after tokens_after pass take_packet open_step packet_step step go run_while call_run answer_alone call_answer answered settled marked page_written ended_by signalled head_written written faulted after
names-count-with-good = (refl, refl)
