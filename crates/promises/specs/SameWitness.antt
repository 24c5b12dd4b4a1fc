-- Two devices that are the same desk stay so in the midst of a submission, where they are not equal: two buffers made in one order and in the other, and a guest
-- that sends packets to both. Assumes nothing.
use Rattle.std.specs.Prelude.{◌≡◌, refl, Bool, true, false, List, [], ◌∷◌, ℕ, eqb}
use Rattle.std.proofs.Common.{sym, ap, ◌∙◌, arith, eqb-true}
use Rattle.machine.specs.Machine.{pick, run_while}
use Rattle.rules.specs.Bytes.{le, bytes_of}
use Rattle.rules.specs.Headers.{wrong_header}
use Rattle.rules.specs.Layouts.{ring_header, descriptor, stream_header, texture_fields, export_fields, import_fields}
use Rattle.rules.specs.Lists.{Found, over, nth, lookup, index_of}
use Rattle.rules.specs.Lists.Found.{none, found}
use Rattle.rules.specs.Names.{token_of, rename, rebind, lowest_left}
use Rattle.rules.specs.Shapes.{block_bytes, halvings, full_chain, good_shape}
use Rattle.rules.specs.Packets.{Belongings, handle_of, create_hosted, create, on_buffer_packet, on_texture_packet, on_export_packet, bound, on_import_packet, apply, target_after, tokens_after, pass, take_packet}
use Rattle.rules.specs.Stream.{stream_rules, known, least_size, frame_rules, frame_of, packet_of}
use Rattle.rules.specs.Ring.{descriptor_rules, range_rules, submission_rules, submission_opening, power_of_two, good_header, good_ring, ring_opening, opening_of}
use Rattle.rules.specs.State.{Work, State}
use Rattle.rules.specs.State.Work.{resting, entries, packets, waiting}
use Rattle.rules.specs.Steps.{open_step, packet_step, step, go}
use Rattle.rules.specs.Registers.{controlled, write_of}
use Rattle.rules.specs.Calls.{call_run, call_write}
use Rattle.rules.specs.declared.Resource.{Resource}
use Rattle.rules.specs.declared.Kind.TheVariants.{Buffer as BufferKind}
use Rattle.rules.specs.declared.Packet.{Packet}
use Rattle.rules.specs.declared.Packet.TheVariants.{Buffer}
use Rattle.promises_of_saving.specs.SameDevice.{SameDevice}
use Rattle.promises_of_units.specs.Called.{after}
use Rattle.promises_of_units.specs.Called.Call.{writes, runs}
use Rattle.promises_of_units.specs.Asked.{Asked, left, left_all}
use Rattle.promises_of_units.specs.Asked.Asked.{calls}
use Rattle.promises_of_same_desks.specs.Witness.{held_after, having}
use Rattle.promises.specs.NightLog.{zeros}
use Rattle.promises.specs.Witness.{in_bytes, ring_words}
use Rattle.promises.specs.StateWitness.{textured, destroyed, stream_with}
use Rattle.promises.specs.SharedWitness.{exported, imported, shared, sharing, sharing_guest}

abbrev pub buffered : ℕ → Packet
buffered k = Buffer (record { handle = k; size = 4096; backing = 0; offset = 0 })

abbrev a_buffer : ℕ → Resource
a_buffer k = record { handle = k; kind = BufferKind; bytes = 4096; pitch = 0; backing = 0; offset = 0; lowest = k }

-- buffers 20 and 21, made in this order, and in the other
unfoldable pub rising_order : State
rising_order = having 272 (buffered 20 ∷ buffered 21 ∷ [])

unfoldable pub other_order : State
other_order = having 272 (buffered 21 ∷ buffered 20 ∷ [])

rising-is : rising_order.belongings ≡ record { resources = a_buffer 20 ∷ a_buffer 21 ∷ []; tokens = [] }
unfolding rising_order having held_after lookup create_hosted create on_buffer_packet apply target_after tokens_after pass
rising-is = refl

other-is : other_order.belongings ≡ record { resources = a_buffer 21 ∷ a_buffer 20 ∷ []; tokens = [] }
unfolding other_order having held_after lookup create_hosted create on_buffer_packet apply target_after tokens_after pass
other-is = refl

same-buffers : (k : ℕ) → lookup handle_of k (a_buffer 20 ∷ a_buffer 21 ∷ []) ≡ lookup handle_of k (a_buffer 21 ∷ a_buffer 20 ∷ [])
unfolding lookup
same-buffers k = by_tests (eqb 20 k) (eqb 21 k) refl refl
  where
    by_tests : (a b : Bool) → eqb 20 k ≡ a → eqb 21 k ≡ b
        → ◌≡◌ {A = Found Resource} (pick a (found (a_buffer 20)) (pick b (found (a_buffer 21)) none)) (pick b (found (a_buffer 21)) (pick a (found (a_buffer 20)) none))
    by_tests true true e f = absurd (omega (arith, eqb-true 20 k e, eqb-true 21 k f))
    by_tests true false e f = refl
    by_tests false true e f = refl
    by_tests false false e f = refl

pub two-orders-one-device : SameDevice rising_order other_order
unfolding rising_order other_order having
two-orders-one-device =
    record {
      memory = refl;
      regs = refl;
      resources = λ k.
          ap (λ (b : Belongings). lookup handle_of k b.resources) rising-is ∙ (same-buffers k ∙ sym (ap (λ (b : Belongings). lookup handle_of k b.resources) other-is));
      tokens = λ k. ap (λ (b : Belongings). lookup token_of k b.tokens) rising-is ∙ sym (ap (λ (b : Belongings). lookup token_of k b.tokens) other-is);
      work = refl;
    }

-- ---- the ring's size, enabled, the doorbell, and a run of three units: the opening and two packets

unfoldable pub into_the_midst : List Asked
into_the_midst = calls (writes 0x108 128) [] ∷ calls (writes 0x10c 1) [] ∷ calls (writes 0x200 0) [] ∷ calls (runs 3) sharing_guest ∷ []

abbrev first_of : List Resource → ℕ
first_of [] = 0
first_of (r ∷ rs) = r.handle

-- the first row that the submission holds
abbrev first_held : Work → ℕ
first_held resting = 0
first_held (entries o kept) = 0
first_held (packets j s at es h) = first_of h.holdings.resources
first_held (waiting j es h) = 0

pub record InTheMidst : Type 0 where
  pub first : first_held (left_all into_the_midst rising_order).work ≡ 20
  pub second : first_held (left_all into_the_midst other_order).work ≡ 21

pub rows_differ_in_the_midst : InTheMidst
unfolding rising_order other_order having held_after into_the_midst left_all left exported imported shared textured destroyed stream_with sharing sharing_guest zeros ring_words in_bytes le bytes_of over lookup index_of nth rename rebind lowest_left ring_header descriptor stream_header power_of_two good_header good_ring ring_opening opening_of descriptor_rules range_rules submission_rules submission_opening wrong_header stream_rules texture_fields export_fields import_fields known least_size frame_rules frame_of packet_of block_bytes halvings full_chain good_shape create_hosted create on_buffer_packet on_texture_packet on_export_packet bound on_import_packet apply target_after tokens_after pass take_packet open_step packet_step step go run_while call_run call_write write_of controlled after
rows_differ_in_the_midst = record { first = refl; second = refl }
