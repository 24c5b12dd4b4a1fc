-- What a submission lists, from its opening on, covers what its units list, one after the other, up to the settling: of any property of fields. Assumes
-- nothing.
use Rattle.std.specs.Prelude.{◌≡◌, Bool, true, false, ltb, drop, Err, Ok}
use Rattle.std.proofs.Math.Path.{refl, subst}
use Rattle.std.proofs.Common.{ap, ◌∙◌, ltb-true, length-append}
use mathlib.Core.List.{List, [], ◌++◌, append_assoc}
use Prim.Native.Nat.{ℕ, zero, suc, ◌+◌, ◌-◌, ◌≤◌, ◌<◌}
use Rattle.std.proofs.Math.Nat.{min-le_left}
use native.Mathlib.Omega.{arith}
use Rattle.std.proofs.Math.ListN.{length, length-take, length-drop}
use Rattle.machine.specs.Machine.{pick}
use Rattle.rules.specs.Judging.{Verdict}
use Rattle.rules.specs.Layouts.{entry, stream_header_size, entry_layout}
use Rattle.rules.specs.Table.{entry_place, entry_rules, keep, in_reach, take_entry}
use Rattle.rules.specs.Stream.{frame_of, size_of, left, stream_bytes, Frame}
use Rattle.rules.specs.Packets.{Progress, Belongings, at_first, pass_frame, take_packet}
use Rattle.rules.specs.State.{Work, World}
use Rattle.rules.specs.State.Work.{resting, entries, packets, waiting}
use Rattle.rules.specs.Steps.{packets_at, entries_at, next_place}
use Rattle.rules.specs.Listed.{placed, Named, opening_listed, entries_listed, packet_listed, behind, packets_listed, stream_listed, opened_listed, submission_listed, unit_listed, listed_at}
use Rattle.rules.specs.declared.Entry.{Entry}
use Rattle.rules.specs.declared.Job.{Job}
use Rattle.rules.specs.declared.Registers.{Registers}
use Rattle.rules.specs.declared.Table.{Table}
use Rattle.rules.specs.declared.Stream.{Stream}
use Rattle.rules.specs.declared.Opened.{Opened}
use Rattle.rules.specs.declared.Refusal.TheVariants.{BadEntry}
use Rattle.stream_packets.specs.Framing.{FrameFits, frame-sound}
use Rattle.rule_laws.specs.Fine.{broken-not-fine}
use Rattle.promises_of_packets.specs.Held.{Every, every-none, every_front, every_back}
use Rattle.promises_of_units.specs.Units.{Next}

-- ---- the lists themselves

-- an entry, and those behind it
entries_next : (t : Table) (i n : ℕ) → i < n → entries_listed t i (n - i) ≡ placed (entry_place t i) entry_layout ++ entries_listed t (suc i) (n - suc i)
unfolding entries_listed
entries_next t i n h = let e : n - i ≡ suc (n - suc i) = omega arith in rw e

-- what is behind a packet counts only where the packet is whole
behind-same : (k k' : ℕ) (m : List ℕ) (s : Stream) (at : ℕ)
    → ((op size : ℕ) → frame_of (left m s at) ≡ Ok (op, size) → packets_listed k m s (at + size) ≡ packets_listed k' m s (at + size))
    → packets_listed (suc k) m s at ≡ packets_listed (suc k') m s at
unfolding packets_listed
behind-same k k' m s at later = ap (λ (l : List Named). packet_listed m s at ++ l) (by_frame (frame_of (left m s at)) refl)
  where
    by_frame : (f : Frame) → frame_of (left m s at) ≡ f → behind f (packets_listed k m s (at + size_of f)) ≡ behind f (packets_listed k' m s (at + size_of f))
    by_frame (Ok (op, size)) e = later op size e
    by_frame (Err r) e = refl

-- fewer bytes are left behind a packet
left-fewer : (m : List ℕ) (s : Stream) (at op size : ℕ) → frame_of (left m s at) ≡ Ok (op, size) → length (left m s (at + size)) < length (left m s at)
left-fewer m s at op size e =
    let fits : FrameFits (left m s at) op size = frame-sound (left m s at) op size e in
    let here : length (left m s at) ≡ length (stream_bytes m s) - at = length-drop at (stream_bytes m s) in
    let next : length (left m s (at + size)) ≡ length (stream_bytes m s) - (at + size) = length-drop (at + size) (stream_bytes m s) in
    omega (arith, fits.header, fits.inside)

-- the number of packets that are listed at most does not matter where it is no less than the bytes that are left
packets-fuel : (k k' : ℕ) (m : List ℕ) (s : Stream) (at : ℕ) → length (left m s at) ≤ k → length (left m s at) ≤ k'
    → packets_listed (suc k) m s at ≡ packets_listed (suc k') m s at
packets-fuel zero k' m s at h h' = behind-same zero k' m s at (λ op size e. absurd (omega (arith, left-fewer m s at op size e)))
packets-fuel (suc k) zero m s at h h' = behind-same (suc k) zero m s at (λ op size e. absurd (omega (arith, left-fewer m s at op size e)))
packets-fuel (suc k) (suc k') m s at h h' =
    behind-same (suc k) (suc k') m s at
    (λ op size e. packets-fuel k k' m s (at + size) (omega (arith, left-fewer m s at op size e)) (omega (arith, left-fewer m s at op size e)))

-- an entry that is kept is one more
kept-one-more : (m : List ℕ) (t : Table) (kept : List Entry) → (take_entry m t kept).verdict ≡ Ok tt → length (take_entry m t kept).kept ≡ suc (length kept)
unfolding take_entry
kept-one-more m t kept = by_tests (in_reach m t (length kept)) (entry_rules (length m) kept next)
  where
    next : Entry
    next = entry m (entry_place t (length kept))

    by_tests : (b : Bool) (v : Verdict) → (pick b (keep v kept next) (record { verdict = Err BadEntry; kept = kept })).verdict ≡ Ok tt
        → length (pick b (keep v kept next) (record { verdict = Err BadEntry; kept = kept })).kept ≡ suc (length kept)
    by_tests true (Ok _) e = rw length-append (omega arith)
    by_tests true (Err r) e = absurd (broken-not-fine r e)
    by_tests false v e = absurd (broken-not-fine BadEntry e)

-- ---- one unit

module _ (P : Named → Type 0) where
  -- it lists no more than is listed from there on
  pub unit-of-listed : (r : Registers) (k : Work) (m : List ℕ) → Every P (listed_at r k m) → Every P (unit_listed r k m)
  unfolding submission_listed packets_listed
  unit-of-listed r resting m s = every_front P _ _ s
  unit-of-listed r (entries o kept) m s = every_front P _ _ s
  unit-of-listed r (packets j t at es h) m s = every_front P _ _ s
  unit-of-listed r (waiting j es h) m s = s

  module _ (r : Registers) (m : List ℕ) where
    packets-ahead : (j : Job) (t : Stream) (at : ℕ) (es : List Entry) (h : Progress) → Every P (stream_listed m t at) → Every P (listed_at r (packets_at j t at es h) m)
    packets-ahead j t at es h s = by_test (ltb at t.size)
      where
        by_test : (b : Bool) → Every P (listed_at r (pick b (packets j t at es h) (waiting j es h)) m)
        by_test true = s
        by_test false = every-none P

    entries-ahead : (o : Opened) (kept : List Entry) (owned : Belongings) (i : ℕ) → length kept ≡ i → Every P (opened_listed m o i) → Every P (listed_at r (entries_at o kept owned) m)
    entries-ahead o kept owned i e s = by_test (ltb (length kept) o.table.count) refl
      where
        by_test : (b : Bool) → ltb (length kept) o.table.count ≡ b
            → Every P (listed_at r (pick b (entries o kept) (packets_at o.job o.stream stream_header_size kept (at_first owned))) m)
        by_test true t = rw (← append_assoc, ← entries_next o.table (length kept) o.table.count (ltb-true _ _ t), e) s
        by_test false t = packets-ahead o.job o.stream stream_header_size kept (at_first owned) (every_back P (entries_listed o.table i (o.table.count - i)) _ s)

    -- behind a packet that is fine
    packet-ahead : (t : Stream) (at : ℕ) (es : List Entry) (h : Progress) → (take_packet es h (left m t at)).verdict ≡ Ok tt
        → Every P (stream_listed m t at) → Every P (stream_listed m t (next_place at (left m t at)))
    unfolding take_packet packets_listed
    packet-ahead t at es h good s = by_frame (frame_of (left m t at)) refl good (every_back P (packet_listed m t at) _ s)
      where
        by_frame : (f : Frame) → frame_of (left m t at) ≡ f → (pass_frame es h (left m t at) f).verdict ≡ Ok tt
            → Every P (behind f (packets_listed t.size m t (at + size_of f))) → Every P (stream_listed m t (at + size_of f))
        by_frame (Ok (op, size)) e fine s =
            let fewer : length (left m t (at + size)) < length (left m t at) = left-fewer m t at op size e in
            let here : length (left m t at) ≡ length (stream_bytes m t) - at = length-drop at (stream_bytes m t) in
            let few : length (stream_bytes m t) ≤ t.size = rw length-take (min-le_left t.size (length (drop t.gpa m))) in
            let some : t.size ≡ suc (t.size - 1) = omega arith in
            let same : packets_listed (suc (t.size - 1)) m t (at + size) ≡ stream_listed m t (at + size) =
            packets-fuel (t.size - 1) t.size m t (at + size) (omega arith) (omega arith) in
            subst (Every P) (ap (λ (k : ℕ). packets_listed k m t (at + size)) some ∙ same) s
        by_frame (Err r) e fine s = absurd (broken-not-fine r fine)

  -- what is listed from the next unit on was listed before
  pub next-listed : (w : World) (k next : Work) → Next w k next → Every P (listed_at w.state.regs k w.mem) → Every P (listed_at w.state.regs next w.mem)
  unfolding submission_listed
  next-listed w resting next h s =
      rw h.first
      (entries-ahead w.state.regs w.mem h.what [] w.state.belongings 0 refl
      (rw h.here at (every_back P (opening_listed w.mem w.state.regs.ring w.state.regs.ringsize) _ s)))
  next-listed w (entries o kept) next h s =
      rw h.1
      (entries-ahead w.state.regs w.mem o (take_entry w.mem o.table kept).kept w.state.belongings (suc (length kept)) (kept-one-more w.mem o.table kept h.0)
      (every_back P (placed (entry_place o.table (length kept)) entry_layout) _ s))
  next-listed w (packets j t at es held) next h s =
      rw h.1
      (packets-ahead w.state.regs w.mem j t (next_place at (left w.mem t at)) es (take_packet es held (left w.mem t at)).held
      (packet-ahead w.state.regs w.mem t at es held h.0 s))
  next-listed w (waiting j es held) next h s = rw h s
