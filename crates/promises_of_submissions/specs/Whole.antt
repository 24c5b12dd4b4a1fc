-- Demand 2: the steps of a submission over still memory end where the unsliced rules end, after their count of units. Assumes nothing.
use Rattle.std.specs.Prelude.{◌≡◌, Bool, true, false, List, [], ◌∷◌, ◌++◌, ltb, take, drop, Err, Ok}
use Rattle.std.proofs.Math.Path.{refl}
use Rattle.std.proofs.Common.{ap, subst, ◌∙◌, append_assoc, append-nil, arith, one-add}
use Prim.Native.Nat.{ℕ, zero, suc, ◌+◌, ◌-◌, ◌≤◌, ◌<◌}
use borrow.Author.Tests.{lt-ltb, le-ltb, ltb-false, ltb-true}
use Rattle.std.proofs.Math.ListN.{length, length-append, length-drop}
use Rattle.machine.specs.Machine.{Out, spent, run_none, run-go, sliced}
use Rattle.rules.specs.Lists.{pushed}
use Rattle.rules.specs.Judging.{Finding, at_place, Verdict}
use Rattle.rules.specs.Judging.Finding.{fine, broken}
use Rattle.rules.specs.Layouts.{entry, stream_header_size}
use Rattle.rules.specs.Table.{Judged, entry_place, entry_rules, keep, in_reach, take_entry, entries_from, stop_or_go, judge_entries}
use Rattle.rules.specs.Stream.{frame_of, packet_of, size_of, before, cut, stream_bytes, Frame}
use Rattle.rules.specs.Packets.{Progress, at_first, pass, pass_frame, take_packet}
use Rattle.rules.specs.Unsliced.{Reckoned, one_further, judge_packets}
use Rattle.stream_packets.specs.Framing.{FrameFits, frame-sound}
use Rattle.stream_packets.specs.Listing.{cut-none, cut-next}
use Rattle.rules.specs.State.{Work, World, working}
use Rattle.rules.specs.State.Work.{resting, entries, packets, waiting}
use Rattle.rules.specs.Settle.{settled, settled_keeping}
use Rattle.rules.specs.Steps.{packets_at, entries_at, after_entry, entry_step, after_packet, next_place, packet_step, step, go, run_for}
use Rattle.rules.specs.declared.Entry.{Entry}
use Rattle.rules.specs.declared.Job.{Job}
use Rattle.rules.specs.declared.Stream.{Stream}
use Rattle.rules.specs.declared.Opened.{Opened}

-- in the midst of a submission: its entries or its packets are being read
abbrev pub midst : Work → Bool
midst resting = false
midst (entries o kept) = true
midst (packets j s at es h) = true
midst (waiting j es h) = false

-- n units from one world to another, in the midst of a submission before each
pub record Course (n : ℕ) (w v : World) : Type 0 where
  pub ends : run_for n w ≡ record { state = v; units = n }
  pub inside : (i : ℕ) → i < n → midst (run_for i w).state.state.work ≡ true

pub course_none : (w : World) → Course 0 w w
course_none w = record { ends = run_none go step w; inside = λ i h. absurd (omega arith) }

-- one unit that goes, and then the rest
course_more : (n : ℕ) (w w' v : World) → go w ≡ true → step w ≡ w' → midst w.state.work ≡ true → Course n w' v → Course (suc n) w v
course_more n w w' v g s m c = record { ends = run-go go step n w g ∙ rw (s, c.ends, one-add); inside = at }
  where
    at : (i : ℕ) → i < suc n → midst (run_for i w).state.state.work ≡ true
    at zero h = rw (run_none go step w) m
    at (suc i) h = rw (run-go go step i w g, s) (c.inside i (omega arith))

course_last : (w w' : World) → go w ≡ true → step w ≡ w' → midst w.state.work ≡ true → Course 1 w w'
course_last w w' g s m = course_more 0 w w' w' g s m (course_none w')

pub course_join : (a b : ℕ) (w x v : World) → Course a w x → Course b x v → Course (a + b) w v
course_join a b w x v p q =
    record {
      ends = onward b ∙ ap (spent a) q.ends;
      inside = λ i h. by_test i h (ltb i a) refl;
    }
  where
    onward : (n : ℕ) → run_for (a + n) w ≡ spent a (run_for n x)
    onward n = sliced go step a n w ∙ ap (λ (o : Out World). spent o.units (run_for n o.state)) p.ends

    by_test : (i : ℕ) → i < a + b → (t : Bool) → ltb i a ≡ t → midst (run_for i w).state.state.work ≡ true
    by_test i h true t = p.inside i (ltb-true i a t)
    by_test i h false t =
        let past : a ≤ i = ltb-false i a t in
        let e : i ≡ a + (i - a) = omega arith in
        ap (λ k. midst (run_for k w).state.state.work) e
        ∙ (ap (λ (o : Out World). midst o.state.state.work) (onward (i - a)) ∙ q.inside (i - a) (omega arith))

-- ---- the entries

module _ (w : World) (on : w.state.regs.enabled ≡ true) (o : Opened) where
  abbrev pub reading : List Entry → World
  reading kept = working (entries_at o kept w.state.belongings) w

  -- what the table's judgement comes to
  abbrev pub after_table : Finding → List Entry → World
  after_table fine all = working (packets_at o.job o.stream stream_header_size all (at_first w.state.belongings)) w
  after_table (broken f) all = settled_keeping o.job (broken f) w

  -- the entry after those that were kept
  abbrev pub next : List Entry → Entry
  next kept = entry w.mem (entry_place o.table (length kept))

  -- the rules' word on it
  abbrev pub word_on : List Entry → Verdict
  word_on kept = entry_rules (length w.mem) kept (next kept)

  -- what an entry comes to does not look at the work before it
  after-entry-on : (k : Work) (kept : List Entry) (v : Finding) → after_entry (working k w) o kept v ≡ after_entry w o kept v
  unfolding settled
  after-entry-on k kept fine = refl
  after-entry-on k kept (broken f) = refl

  module _ (reach : (i : ℕ) → i < o.table.count → in_reach w.mem o.table i ≡ true) where
    module _ (kept : List Entry) (more : length kept < o.table.count) where
      go-entry : go (reading kept) ≡ true
      unfolding go
      go-entry = rw (lt-ltb (length kept) o.table.count more, on)

      midst-entry : midst (reading kept).state.work ≡ true
      midst-entry = rw (lt-ltb (length kept) o.table.count more)

      step-entry : step (reading kept) ≡ after_entry w o (keep (word_on kept) kept (next kept)).kept (at_place (length kept) (keep (word_on kept) kept (next kept)).verdict)
      unfolding step entry_step take_entry
      step-entry =
          rw (lt-ltb (length kept) o.table.count more, reach (length kept) more)
          (after-entry-on (entries o kept) (keep (word_on kept) kept (next kept)).kept (at_place (length kept) (keep (word_on kept) kept (next kept)).verdict))

      at_entry : (v : Verdict) (es : List Entry) (j : Judged) → step (reading kept) ≡ after_entry w o (keep v kept (next kept)).kept (at_place (length kept) (keep v kept (next kept)).verdict)
          → Course j.count (reading (pushed kept (next kept))) (after_table j.finding (pushed kept (next kept) ++ es))
          → Course (stop_or_go (length kept) v j).count (reading kept) (after_table (stop_or_go (length kept) v j).finding (kept ++ (next kept ∷ es)))
      at_entry (Ok _) es j st ih =
          course_more j.count (reading kept) (reading (pushed kept (next kept))) _ go-entry st midst-entry
          (subst (λ (l : List Entry). Course j.count (reading (pushed kept (next kept))) (after_table j.finding l)) (append_assoc kept (next kept ∷ []) es) ih)
      at_entry (Err r) es j st ih = course_last (reading kept) _ go-entry st midst-entry

    -- from the entries kept so far, n being left
    pub entries_end : (n i : ℕ) (kept : List Entry) → i ≡ length kept → i + n ≡ o.table.count
        → Course (judge_entries (length w.mem) kept (entries_from w.mem o.table i n)).count (reading kept)
        (after_table (judge_entries (length w.mem) kept (entries_from w.mem o.table i n)).finding (kept ++ entries_from w.mem o.table i n))
    unfolding judge_entries entries_from
    entries_end zero i kept e h = rw (le-ltb (length kept) o.table.count (omega arith), append-nil) (course_none _)
    entries_end (suc n) i kept e h =
        let len : suc (length kept) ≡ length (pushed kept (next kept)) = simp length-append (omega arith) in
        rw e
        (at_entry kept (omega arith) (word_on kept) (entries_from w.mem o.table (suc (length kept)) n)
        (judge_entries (length w.mem) (pushed kept (next kept)) (entries_from w.mem o.table (suc (length kept)) n))
        (step-entry kept (omega arith)) (entries_end n (suc (length kept)) (pushed kept (next kept)) len (omega arith)))

-- ---- the packets

module _ (w : World) (on : w.state.regs.enabled ≡ true) (j : Job) (s : Stream) (es : List Entry) (len : length (stream_bytes w.mem s) ≡ s.size) where
  abbrev pub bytes : List ℕ
  bytes = stream_bytes w.mem s

  abbrev pub placed : ℕ → Progress → World
  placed at h = working (packets_at j s at es h) w

  -- what the packets' judgement comes to
  abbrev pub after_stream : Finding → Progress → World
  after_stream fine h = working (waiting j es h) w
  after_stream (broken f) h = settled_keeping j (broken f) w

  -- from a place in the stream, the units are the reckoning's count and the end is its finding's
  abbrev pub Reckons : ℕ → Progress → Reckoned → Type 0
  Reckons at h q = Course q.count (placed at h) (after_stream q.finding q.held)

  -- what a packet comes to does not look at the work before it
  after-packet-on : (k : Work) (next : ℕ) (h : Progress) (v : Finding) → after_packet (working k w) j s next es h v ≡ after_packet w j s next es h v
  unfolding settled
  after-packet-on k next h fine = refl
  after-packet-on k next h (broken f) = refl

  module _ (at : ℕ) (h : Progress) (more : at < s.size) where
    go-packet : go (placed at h) ≡ true
    unfolding go
    go-packet = rw (lt-ltb at s.size more, on)

    midst-packet : midst (placed at h).state.work ≡ true
    midst-packet = rw (lt-ltb at s.size more)

    step-packet : step (placed at h) ≡ after_packet w j s (next_place at (drop at bytes)) es (take_packet es h (drop at bytes)).held (at_place at (take_packet es h (drop at bytes)).verdict)
    unfolding step packet_step
    step-packet =
        rw (lt-ltb at s.size more)
        (after-packet-on (packets j s at es h) (next_place at (drop at bytes)) (take_packet es h (drop at bytes)).held (at_place at (take_packet es h (drop at bytes)).verdict))

    step-as-frame : step (placed at h) ≡ after_packet w j s (at + size_of (frame_of (drop at bytes))) es (pass_frame es h (drop at bytes) (frame_of (drop at bytes))).held (at_place at (pass_frame es h (drop at bytes) (frame_of (drop at bytes))).verdict)
    unfolding take_packet
    step-as-frame = step-packet

    at_applied : (v : Verdict) (size : ℕ) (held : Progress) (q : Reckoned) → step (placed at h) ≡ after_packet w j s (at + size) es held (at_place at v)
        → Course q.count (placed (at + size) held) (after_stream q.finding q.held)
        → Course (one_further at v h q).count (placed at h) (after_stream (one_further at v h q).finding (one_further at v h q).held)
    at_applied (Ok _) size held q st ih = course_more q.count (placed at h) (placed (at + size) held) _ go-packet st midst-packet ih
    at_applied (Err r) size held q st ih = course_last (placed at h) _ go-packet st midst-packet

    at-frame : (k : ℕ) (f : Frame) → ((op size : ℕ) → f ≡ Ok (op, size) → FrameFits (drop at bytes) op size)
        → step (placed at h) ≡ after_packet w j s (at + size_of f) es (pass_frame es h (drop at bytes) f).held (at_place at (pass_frame es h (drop at bytes) f).verdict)
        → ((n : ℕ) (g : Progress) → at < n → n ≤ s.size → Reckons n g (judge_packets es g (cut k n (drop n bytes))))
        → Reckons at h (judge_packets es h (before at f (drop at bytes) (cut k (at + size_of f) (drop (at + size_of f) bytes))))
    unfolding judge_packets
    at-frame k (Ok (op, size)) d st ih =
        let room : length (drop at bytes) ≡ s.size - at = length-drop at bytes ∙ rw len in
        let some : 8 ≤ size = (d op size refl).header in
        let fits : size ≤ length (drop at bytes) = (d op size refl).inside in
        at_applied (pass es h (packet_of op (take size (drop at bytes)))).verdict size (pass es h (packet_of op (take size (drop at bytes)))).held
        (judge_packets es (pass es h (packet_of op (take size (drop at bytes)))).held (cut k (at + size) (drop (at + size) bytes))) st
        (ih (at + size) (pass es h (packet_of op (take size (drop at bytes)))).held (omega arith) (omega arith))
    at-frame k (Err r) d st ih = course_last (placed at h) _ go-packet st midst-packet

  packets-none : (k at : ℕ) (h : Progress) → s.size ≤ at → Reckons at h (judge_packets es h (cut k at (drop at bytes)))
  unfolding judge_packets
  packets-none k at h p =
      let gone : length bytes ≤ at = rw len p in
      rw (cut-none k bytes at gone, le-ltb at s.size p) (course_none _)

  -- from a place in the stream, k bounding what is left
  pub packets-end : (k at : ℕ) (h : Progress) → s.size - at ≤ k → Reckons at h (judge_packets es h (cut k at (drop at bytes)))
  packets-end zero at h f = packets-none zero at h (omega arith)
  packets-end (suc k) at h f = by_test (ltb at s.size) refl (λ n g p q. packets-end k n g (omega arith))
    where
      by_test : (t : Bool) → ltb at s.size ≡ t
          → ((n : ℕ) (g : Progress) → at < n → n ≤ s.size → Reckons n g (judge_packets es g (cut k n (drop n bytes))))
          → Reckons at h (judge_packets es h (cut (suc k) at (drop at bytes)))
      by_test true t ih =
          let more : at < s.size = ltb-true at s.size t in
          let some : at < length bytes = rw len more in
          rw (cut-next k bytes at some)
          (at-frame at h more k (frame_of (drop at bytes)) (frame-sound (drop at bytes)) (step-as-frame at h more) ih)
      by_test false t ih = packets-none (suc k) at h (ltb-false at s.size t)
