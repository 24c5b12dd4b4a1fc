-- How far the list goes where an opening ends early: each part only where it is read. Assumes nothing.
use Rattle.std.specs.Prelude.{◌≡◌, false, ◌&&◌, ℕ, ◌+◌, ◌<◌, ltb, leb, length, Err}
use Rattle.std.proofs.Common.{◌∙◌}
use Rattle.std.proofs.Math.Bool.{true}
use mathlib.Core.List.{List, [], append-nil}
use borrow.Author.Tests.{lt-leb, lt-ltb, eq-eqb}
use Rattle.std.proofs.Math.Dec.{eqb}
use Rattle.rules.specs.Judging.{◌▹◌}
use Rattle.rules.specs.Layouts.{ring_header, ring_header_size, descriptor, packet_header_size, ring_header_layout, descriptor_layout}
use Rattle.rules.specs.Stream.{frame_rules, frame_of, left}
use Rattle.rules.specs.Ring.{descriptor_rules, range_rules, good_ring, ring_opening, opening_of}
use Rattle.rules.specs.Listed.{placed, slot_listed, opening_listed, packet_listed, packets_listed, stream_listed, submission_listed}
use Rattle.rules.specs.declared.Job.{Job}
use Rattle.rules.specs.declared.Refusal.{Refusal}
use Rattle.rules.specs.declared.Stream.{Stream}
use Rattle.rules.specs.declared.Opening.TheVariants.{Refused}
use Rattle.rules.specs.declared.Refusal.TheVariants.{BadPacket}

module _ (m : List ℕ) (ring size : ℕ) where
  -- a ring that does not lie in memory, or is too small for a header: no field is listed
  pub no-ring-lists-nothing : leb ring_header_size size && leb (ring + size) (length m) ≡ false → good_ring m ring size ≡ false → submission_listed m ring size ≡ []
  unfolding submission_listed opening_listed opening_of
  no-ring-lists-nothing e g = rw (e, g)

  -- a bad ring: its header alone
  pub bad-ring-lists-its-header : leb ring_header_size size && leb (ring + size) (length m) ≡ true → good_ring m ring size ≡ false → submission_listed m ring size ≡ placed ring ring_header_layout
  unfolding submission_listed opening_listed opening_of
  bad-ring-lists-its-header e g = rw (e, g) (append-nil _ ∙ append-nil _)

  -- no submission is pending: its header alone
  pub no-work-lists-the-header : leb ring_header_size size && leb (ring + size) (length m) ≡ true → good_ring m ring size ≡ true
      → (ring_header m ring).head ≡ (ring_header m ring).tail → submission_listed m ring size ≡ placed ring ring_header_layout
  unfolding submission_listed opening_listed opening_of ring_opening
  no-work-lists-the-header e g h =
      let t : eqb (ring_header m ring).head (ring_header m ring).tail ≡ true = eq-eqb _ _ h in
      rw (e, g, t) (append-nil _ ∙ append-nil _)

-- a slot that 11 or 12 refuses: its descriptor alone
pub refused-slot-lists-its-descriptor : (m : List ℕ) (at stride : ℕ) (r : Refusal) → descriptor_rules stride (descriptor m at) ▹ range_rules (length m) (descriptor m at) ≡ Err r
    → slot_listed m at stride ≡ placed at descriptor_layout
unfolding slot_listed
refused-slot-lists-its-descriptor m at stride r e = rw e (append-nil _)

-- a submission that its opening refuses lists no entry and no packet, whatever its table's count
pub refused-lists-no-entry : (m : List ℕ) (ring size : ℕ) (j : Job) (r : Refusal) → opening_of m ring size ≡ Refused j r → submission_listed m ring size ≡ opening_listed m ring size
unfolding submission_listed
refused-lists-no-entry m ring size j r e = rw e (append-nil _)

short-is-misframed : (b : List ℕ) → length b < packet_header_size → frame_of b ≡ Err BadPacket
unfolding frame_of frame_rules
short-is-misframed b h = let short : ltb (length b) packet_header_size ≡ true = lt-ltb _ _ h in rw short

-- 1 to 7 bytes left list nothing, and neither does a stream that is not there or has ended
pub last-bytes-list-nothing : (m : List ℕ) (s : Stream) (at : ℕ) → length (left m s at) < packet_header_size → stream_listed m s at ≡ []
unfolding packets_listed packet_listed
last-bytes-list-nothing m s at h =
    let few : leb packet_header_size (length (left m s at)) ≡ false = lt-leb packet_header_size (length (left m s at)) h in
    rw (few, short-is-misframed (left m s at) h)
