-- What is listed is fixed by the bytes that are listed: two memories that agree on what one of them lists list the same. So it does not matter in which of the two it is
-- read. Assumes nothing.
use Rattle.std.specs.Prelude.{◌≡◌, Bool, true, false, not, ◌&&◌, eqb, length, Err, Ok}
use Rattle.std.proofs.Math.Path.{refl}
use Rattle.std.proofs.Common.{ap, ◌∙◌}
use mathlib.Core.List.{List, ◌++◌}
use Prim.Native.Nat.{ℕ, zero, suc, ◌+◌, ◌-◌}
use Rattle.std.proofs.lemmas.Bool.{eqb-false}
use Rattle.std.proofs.Math.Dec.{leb}
use Rattle.rules.specs.Judging.{◌▹◌, Verdict}
use Rattle.rules.specs.Layouts.{ring_header, ring_header_size, descriptor, stream_header_size, ring_header_layout, descriptor_layout}
use Rattle.rules.specs.Stream.{frame_of, size_of, left, Frame}
use Rattle.rules.specs.Ring.{descriptor_rules, range_rules, good_ring, slot_place}
use Rattle.rules.specs.Listed.{placed, Named, where_true, where_fine, ranges_listed, slot_listed, opening_listed, entries_listed, packet_listed, behind, packets_listed, opened_listed}
use Rattle.rules.specs.declared.Descriptor.{Descriptor}
use Rattle.rules.specs.declared.RingHeader.{RingHeader}
use Rattle.rules.specs.declared.Stream.{Stream}
use Rattle.rules.specs.declared.Opened.{Opened}
use Rattle.promises_of_submissions.specs.Reads.{AgreeOn}
use Rattle.promises_of_submissions.specs.OpeningRead.{RangesRead, SlotRead, OpeningRead, same-table-rules, same_good, same-header}
use Rattle.promises_of_submissions.specs.LocalPackets.{left-length}
use Rattle.promises_of_leftovers.specs.Opening.{front_of, back-of}
use Rattle.promises_of_leftovers.specs.Packet.{listed-frame}

module _ (m m' : List ℕ) (len : length m ≡ length m') where
  -- ---- an opening

  same-ranges : (d : Descriptor) → RangesRead m m' d → ranges_listed m d ≡ ranges_listed m' d
  unfolding ranges_listed
  same-ranges d same = rw (same-table-rules m m' d same)

  same-slot : (at stride : ℕ) → SlotRead m m' at stride → slot_listed m at stride ≡ slot_listed m' at stride
  unfolding slot_listed
  same-slot at stride same = rw (← same.slot, ← len) (by-verdicts (descriptor_rules stride (descriptor m at)) (range_rules (length m) (descriptor m at)) refl refl)
    where
      by-verdicts : (u v : Verdict) → descriptor_rules stride (descriptor m at) ≡ u → range_rules (length m) (descriptor m at) ≡ v
          → placed at descriptor_layout ++ where_fine (u ▹ v) (ranges_listed m (descriptor m at)) ≡ placed at descriptor_layout ++ where_fine (u ▹ v) (ranges_listed m' (descriptor m at))
      by-verdicts (Ok _) (Ok _) p q = rw (same-ranges (descriptor m at) (same.ranges p q))
      by-verdicts (Ok _) (Err r) p q = refl
      by-verdicts (Err r) v p q = refl

  pub same-opening-listed : (ring size : ℕ) → OpeningRead m m' ring size → opening_listed m ring size ≡ opening_listed m' ring size
  unfolding opening_listed
  same-opening-listed ring size same = rw (← len, ← same_good m m' len ring size same) (ap (λ (l : List Named). where_true (leb ring_header_size size && leb (ring + size) (length m)) (placed ring ring_header_layout) ++ l) (by-ring (good_ring m ring size) refl))
    where
      slot_in : List ℕ → RingHeader → List Named
      slot_in l h = slot_listed l (slot_place ring h) h.stride

      by_test : (t : Bool) → eqb (ring_header m ring).head (ring_header m ring).tail ≡ t → good_ring m ring size ≡ true
          → where_true (not t) (slot_in m (ring_header m ring)) ≡ where_true (not t) (slot_in m' (ring_header m ring))
      by_test true t good = refl
      by_test false t good =
          same-slot (slot_place ring (ring_header m ring)) (ring_header m ring).stride (same.pending good (eqb-false (ring_header m ring).head (ring_header m ring).tail t))

      by-ring : (g : Bool) → good_ring m ring size ≡ g
          → where_true (g && not (eqb (ring_header m ring).head (ring_header m ring).tail)) (slot_in m (ring_header m ring))
          ≡ where_true (g && not (eqb (ring_header m' ring).head (ring_header m' ring).tail)) (slot_in m' (ring_header m' ring))
      by-ring true good =
          by_test (eqb (ring_header m ring).head (ring_header m ring).tail) refl good
          ∙ ap (λ (h : RingHeader). where_true (not (eqb h.head h.tail)) (slot_in m' h)) (same-header m m' len ring size same good)
      by-ring false good = refl

  -- ---- packets

  same-packet-listed : (s : Stream) (at : ℕ) → AgreeOn m m' (packet_listed m s at) → packet_listed m s at ≡ packet_listed m' s at
  unfolding packet_listed
  same-packet-listed s at same = rw (left-length s at m m' len, listed-frame s at m m' len same)

  pub same-packets : (k : ℕ) (s : Stream) (at : ℕ) → AgreeOn m m' (packets_listed k m s at) → packets_listed k m s at ≡ packets_listed k m' s at
  unfolding packets_listed
  same-packets zero s at same = refl
  same-packets (suc k) s at same =
      let here : AgreeOn m m' (packet_listed m s at) = front_of m m' _ _ same in
      rw (← same-packet-listed s at here, ← listed-frame s at m m' len here)
      (ap (λ (l : List Named). packet_listed m s at ++ l)
      (by_frame (frame_of (left m s at)) (λ n. same-packets k s (at + n)) (back-of m m' (packet_listed m s at) _ same)))
    where
      by_frame : (f : Frame) → ((n : ℕ) → AgreeOn m m' (packets_listed k m s (at + n)) → packets_listed k m s (at + n) ≡ packets_listed k m' s (at + n))
          → AgreeOn m m' (behind f (packets_listed k m s (at + size_of f))) → behind f (packets_listed k m s (at + size_of f)) ≡ behind f (packets_listed k m' s (at + size_of f))
      by_frame (Ok (op, size)) later same = later size same
      by_frame (Err r) later same = refl

  -- ---- a submission

  pub same-opened : (o : Opened) (i : ℕ) → AgreeOn m m' (opened_listed m o i) → opened_listed m o i ≡ opened_listed m' o i
  same-opened o i same =
      ap (λ (l : List Named). entries_listed o.table i (o.table.count - i) ++ l)
      (same-packets (suc o.stream.size) o.stream stream_header_size (back-of m m' (entries_listed o.table i (o.table.count - i)) _ same))
