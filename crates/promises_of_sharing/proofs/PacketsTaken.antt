-- The theorems of specs/PacketsTaken.antt, and what they rest on. Assumes nothing.
use Rattle.std.proofs.Math.Path.{◌≡◌, refl, sym, subst}
use Rattle.std.proofs.Common.{one-add}
use Rattle.std.specs.Prelude.{Bool, ltb, length, take, Err, Ok}
use Rattle.std.proofs.Math.Bool.{true, false}
use mathlib.Core.List.{List, [], ◌++◌}
use Prim.Native.Nat.{ℕ, zero, suc}
use native.Mathlib.Omega.{arith}
use Rattle.machine.specs.Machine.{pick, run_none, run-stop, run-go}
use Rattle.rules.specs.Layouts.{stream_header_size}
use Rattle.rules.specs.Stream.{left, frame_of, packet_of, Frame}
use Rattle.rules.specs.Table.{take_entry}
use Rattle.rules.specs.Packets.{Progress, Belongings, at_first, left_by, pass_frame, take_packet}
use Rattle.rules.specs.State.{Work, State, World}
use Rattle.rules.specs.State.Work.{resting, entries, packets, waiting}
use Rattle.rules.specs.Settle.{settled}
use Rattle.rules.specs.Steps.{packets_at, entries_at, go, step, run_for, waits_on, waits, answer_on, answered}
use Rattle.rules.specs.Calls.{Ran, call_write}
use Rattle.rules.specs.Loaded.{loaded_sections, loaded}
use Rattle.rules.specs.declared.Entry.{Entry}
use Rattle.rules.specs.declared.Job.{Job}
use Rattle.rules.specs.declared.Opened.{Opened}
use Rattle.rules.specs.declared.Stream.{Stream}
use Rattle.promises_of_packets.specs.Held.{SoundProgress}
use Rattle.promises_of_units.specs.Called.{Call, after, Called, is_reset}
use Rattle.promises_of_units.specs.Called.Call.{writes, reads, runs, records, answers}
use Rattle.promises_of_units.specs.Called.Called.{makes, loads, calls}
use Rattle.promises_of_units.specs.Sound.{SoundWork, SoundState}
use Rattle.promises_of_units.proofs.Sound.{step-keeps-sound, answer-keeps-sound}
use Rattle.promises_of_units.proofs.Ranges.{call-keeps-sound, called-sound}
use Rattle.promises_of_units.specs.Runs.{of-run, of-answer}
use Rattle.promises_of_units.specs.Units.{Next, Unit}
use Rattle.promises_of_units.proofs.Units.{unit}
use Rattle.promises_of_units.specs.Units.Unit.{works-on, finds-bad-ring, finds-no-work, settles}
use Rattle.promises_of_units.specs.Writes.{resets, Written, write-keeps-or-drops}
use Rattle.promises_of_units.specs.Writes.Written.{keeps, drops}
use Rattle.promises_of_sharing.specs.TokensOverCalls.{CalledOn}
use Rattle.promises_of_sharing.proofs.TokensOverCalls.{a-reset-drops-the-work}
use Rattle.promises_of_sharing.specs.TokensOverCalls.CalledOn.{not_yet, calls-on}
use Rattle.promises_of_sharing.specs.PacketsTaken.{Carries, Follows, InWork, NoneYet, Packets, Taken, With, own, packets_after_answer, packets_after_call, packets_after_unit, packets_after_units, packets_in_work, packets_since, taken_in}

-- ---- what holds from packet to packet, of what was had before and after

module _ (R : List Taken → Belongings → Belongings → Type 0) (c : Carries R) where
  -- of what the bytes left of a stream begin with
  in-a-stream : (es : List Entry) (h : Progress) → SoundProgress es h → (b : List ℕ) → (take_packet es h b).verdict ≡ Ok tt
      → R (taken_in h b (frame_of b)) (left_by h) (left_by (take_packet es h b).held)
  unfolding take_packet
  in-a-stream es h s b = by_frame (frame_of b)
    where
      by_frame : (f : Frame) → (pass_frame es h b f).verdict ≡ Ok tt → R (taken_in h b f) (left_by h) (left_by (pass_frame es h b f).held)
      by_frame (Ok (op, size)) e = c.packet es h s (packet_of op (take size b)) e
      by_frame (Err r) e = absurd (let z : ◌≡◌ {A = ℕ} 0 1 = cc in omega arith)

  packets-carry : (xs : List Taken) (own : Belongings) (j : Job) (t : Stream) (at : ℕ) (es : List Entry) (h : Progress)
      → R xs own (left_by h) → (InWork R c) xs own (packets_at j t at es h)
  packets-carry xs own j t at es h k = by_test (ltb at t.size)
    where
      by_test : (b : Bool) → (InWork R c) xs own (pick b (packets j t at es h) (waiting j es h))
      by_test true = k
      by_test false = k

  -- a submission has taken none before its first packet
  entries-carry : (own : Belongings) (o : Opened) (kept : List Entry) → (InWork R c) [] own (entries_at o kept own)
  entries-carry own o kept = by_test (ltb (length kept) o.table.count)
    where
      by_test : (b : Bool) → (InWork R c) [] own (pick b (entries o kept) (packets_at o.job o.stream stream_header_size kept (at_first own)))
      by_test true = omega arith
      by_test false = packets-carry [] own o.job o.stream stream_header_size kept (at_first own) (c.same own)

  none-in-packets : (xs : List Taken) (j : Job) (t : Stream) (at : ℕ) (es : List Entry) (h : Progress) → (NoneYet R c) xs (packets_at j t at es h)
  none-in-packets xs j t at es h = by_test (ltb at t.size)
    where
      by_test : (b : Bool) → (NoneYet R c) xs (pick b (packets j t at es h) (waiting j es h))
      by_test true = omega arith
      by_test false = omega arith

  none-in-entries : (own : Belongings) (o : Opened) (kept : List Entry) → (NoneYet R c) [] (entries_at o kept own)
  none-in-entries own o kept = by_test (ltb (length kept) o.table.count)
    where
      by_test : (b : Bool) → (NoneYet R c) [] (pick b (entries o kept) (packets_at o.job o.stream stream_header_size kept (at_first own)))
      by_test true = refl
      by_test false = none-in-packets [] o.job o.stream stream_header_size kept (at_first own)

  module _ (w : World) (xs : List Taken) where
    next-none : (k next : Work) → Next w k next → (NoneYet R c) xs k → (NoneYet R c) (packets_after_unit w k xs) next
    next-none resting next h n = subst ((NoneYet R c) []) (sym h.first) (none-in-entries (own R c w xs) h.what [])
    next-none (entries o kept) next h n =
        subst (λ z. (NoneYet R c) z next) (sym n) (subst ((NoneYet R c) []) (sym h.1) (none-in-entries (own R c w xs) o (take_entry w.mem o.table kept).kept))
    next-none (packets j t at es h') next h n = subst ((NoneYet R c) _) (sym h.1) (none-in-packets _ j t _ es (take_packet es h' (left w.mem t at)).held)
    next-none (waiting j es h') next h n = subst ((NoneYet R c) xs) (sym h) n

    next-carries : (k next : Work) → Next w k next → SoundWork k → (NoneYet R c) xs k → (InWork R c) xs (own R c w xs) k → (InWork R c) (packets_after_unit w k xs) (own R c w xs) next
    next-carries resting next h s n q = subst ((InWork R c) [] (own R c w xs)) (sym h.first) (entries-carry (own R c w xs) h.what [])
    next-carries (entries o kept) next h s n q =
        subst (λ z. (InWork R c) z (own R c w xs) next) (sym n) (subst ((InWork R c) [] (own R c w xs)) (sym h.1) (entries-carry (own R c w xs) o (take_entry w.mem o.table kept).kept))
    next-carries (packets j t at es h') next h s n q =
        let b : List ℕ = left w.mem t at in
        let here : List Taken = taken_in h' b (frame_of b) in
        subst ((InWork R c) (here ++ xs) (own R c w xs)) (sym h.1)
        (packets-carry (here ++ xs) (own R c w xs) j t _ es (take_packet es h' b).held
        (c.both xs here (own R c w xs) (left_by h') (left_by (take_packet es h' b).held) q (in-a-stream es h' s.1 b h.0)))
    next-carries (waiting j es h') next h s n q = subst ((InWork R c) xs (own R c w xs)) (sym h) q

  -- ---- a device some calls after one that had these belongings

  module _ (first : Belongings) where
    -- units: what was answered good stays
    module _ (by_good : List Taken) where
      by-unit : (w w' : World) (xs : List Taken) → Unit w w' → SoundState w'.state → (With R c first by_good) xs w.state → (With R c first by_good) (packets_after_unit w w.state.work xs) w'.state
      unfolding settled
      by-unit w w' xs (works-on next h) o f =
          record {
            sound = o;
            own = f.own;
            none_yet = next-none w xs w.state.work next h f.none_yet;
            work = next-carries w xs w.state.work next h f.sound.work f.none_yet f.work;
          }
      by-unit w w' xs (finds-bad-ring e h) o f =
          record { sound = o; own = f.own; none_yet = subst ((NoneYet R c) _) (sym e) (omega arith); work = subst ((InWork R c) _ w.state.belongings) (sym e) (omega arith) }
      by-unit w w' xs (finds-no-work e h) o f =
          record { sound = o; own = f.own; none_yet = subst ((NoneYet R c) _) (sym e) (omega arith); work = subst ((InWork R c) _ w.state.belongings) (sym e) (omega arith) }
      by-unit w w' xs (settles j r h) o f = record { sound = o; own = f.own; none_yet = omega arith; work = omega arith }

      run-follows : (n : ℕ) (w : World) (xs : List Taken) → (With R c first by_good) xs w.state → (With R c first by_good) (packets_after_units (run_for n w).units w xs) (run_for n w).state.state
      unfolding packets_after_units
      run-follows zero w xs f = rw (run_none go step w) f
      run-follows (suc n) w xs f =
          by_test (go w) refl (run-follows n (step w) (packets_after_unit w w.state.work xs) (by-unit w (step w) xs (unit w) (step-keeps-sound w f.sound) f))
        where
          by_test : (b : Bool) → go w ≡ b → (With R c first by_good) (packets_after_units (run_for n (step w)).units (step w) (packets_after_unit w w.state.work xs)) (run_for n (step w)).state.state
              → (With R c first by_good) (packets_after_units (run_for (suc n) w).units w xs) (run_for (suc n) w).state.state
          by_test true g q = rw (run-go go step n w g, one-add) q
          by_test false g q = rw (run-stop go step (suc n) w g) f

    answer-follows : (good : Bool) (w : World) (x : Packets) → waits w.state ≡ true → (Follows R c) first w.state x
        → (With R c first) (pick good (x.in_work ++ x.by_good) x.by_good) [] (answered good w).state
    unfolding answered settled
    answer-follows good w x waited f = by-work good w.state.work refl waited (answer-keeps-sound good w f.sound)
      where
        by-work : (good : Bool) (k : Work) → w.state.work ≡ k → waits_on k ≡ true → SoundState (answer_on good w k).state
            → (With R c first) (pick good (x.in_work ++ x.by_good) x.by_good) [] (answer_on good w k).state
        by-work good resting e a sound = absurd (let z : ◌≡◌ {A = ℕ} 0 1 = cc in omega arith)
        by-work good (entries o kept) e a sound = absurd (let z : ◌≡◌ {A = ℕ} 0 1 = cc in omega arith)
        by-work good (packets j t at es h) e a sound = absurd (let z : ◌≡◌ {A = ℕ} 0 1 = cc in omega arith)
        by-work true (waiting j es h) e a sound =
            record {
              sound = sound;
              own =
                  c.both x.by_good x.in_work first w.state.belongings (left_by h) f.own
                  (subst ((InWork R c) x.in_work w.state.belongings) e f.work);
              none_yet = omega arith;
              work = omega arith;
            }
        by-work false (waiting j es h) e a sound = record { sound = sound; own = f.own; none_yet = omega arith; work = omega arith }

    by_written : (s s' : State) (offset v : ℕ) (x : Packets) → resets offset v ≡ false → Written s offset v s' → SoundState s' → (Follows R c) first s x → (Follows R c) first s' x
    by_written s s' offset v x n = by-kind s'
      where
        by-kind : (y : State) → Written s offset v y → SoundState y → (Follows R c) first s x → (Follows R c) first y x
        by-kind y (keeps r h d e) o f = record { sound = o; own = f.own; none_yet = f.none_yet; work = f.work }
        by-kind y (drops h) o f = absurd (let z : ◌≡◌ {A = ℕ} 0 1 = cc in omega arith)

    -- any call but a reset
    call-follows : (k : Call) (w : World) (x : Packets) → is_reset k ≡ false → (Follows R c) first w.state x → (Follows R c) first (after k w).state (packets_after_call k w x)
    unfolding after packets_after_call packets_after_units
    call-follows (writes offset v) w x n f =
        by_written w.state (call_write w.state offset v).state offset v x n (write-keeps-or-drops w.state offset v)
        (call-keeps-sound (writes offset v) w f.sound) f
    call-follows (reads offset) w x n f = f
    call-follows (runs i) w x n f =
        of-run (λ (r : Ran). (With R c first) x.by_good (packets_after_units r.units w x.in_work) r.world.state) w i (λ e. f) (λ e. run-follows x.by_good i w x.in_work f)
    call-follows (records i) w x n f = f
    call-follows (answers good i) w x n f =
        of-answer (λ (r : Ran). (Follows R c) first r.world.state (packets_after_answer good w r x)) w good i (λ e. f) (λ e a. f)
        (λ e a. run-follows (pick good (x.in_work ++ x.by_good) x.by_good) i (answered good w) [] (answer-follows good w x a f))

  -- ---- any device made and called

  -- before any call
  follows_itself : (s : State) (k : Called s) → (Follows R c) s.belongings s (record { by_good = []; in_work = packets_in_work s k })
  unfolding packets_in_work loaded loaded_sections
  follows_itself s (makes memory) = record { sound = called-sound s (makes memory); own = c.same s.belongings; none_yet = omega arith; work = omega arith }
  follows_itself s (loads b good) = record { sound = called-sound s (loads b good); own = c.same s.belongings; none_yet = omega arith; work = omega arith }
  follows_itself s (calls {s = t} d m k) = by-reset d (is_reset d) refl (follows_itself t k)
    where
      again : (d : Call) (b : Bool) → is_reset d ≡ b → (Follows R c) t.belongings t (record { by_good = []; in_work = packets_in_work t k })
          → (NoneYet R c) (packets_after_call d (record { state = t; mem = m }) (record { by_good = []; in_work = packets_in_work t k })).in_work (after d (record { state = t; mem = m })).state.work
          × (InWork R c) (packets_after_call d (record { state = t; mem = m }) (record { by_good = []; in_work = packets_in_work t k })).in_work
          (after d (record { state = t; mem = m })).state.belongings (after d (record { state = t; mem = m })).state.work
      again d false e f =
          let g : (Follows R c) t.belongings (after d (record { state = t; mem = m })).state _ =
          call-follows t.belongings d (record { state = t; mem = m }) (record { by_good = []; in_work = packets_in_work t k }) e f in
          (g.none_yet, g.work)
      again d true e f =
          let rests = sym (a-reset-drops-the-work d (record { state = t; mem = m }) e) in
          (subst ((NoneYet R c) _) rests (omega arith), subst ((InWork R c) _ _) rests (omega arith))

      by-reset : (d : Call) (b : Bool) → is_reset d ≡ b → (Follows R c) t.belongings t (record { by_good = []; in_work = packets_in_work t k })
          → (Follows R c) (after d (record { state = t; mem = m })).state.belongings (after d (record { state = t; mem = m })).state
          (record { by_good = []; in_work = (packets_after_call d (record { state = t; mem = m }) (record { by_good = []; in_work = packets_in_work t k })).in_work })
      by-reset d b e f =
          let g = again d b e f in
          record {
            sound = call-keeps-sound d (record { state = t; mem = m }) f.sound;
            own = c.same (after d (record { state = t; mem = m })).state.belongings;
            none_yet = g.0;
            work = g.1;
          }

  follows : (s u : State) (k : Called s) (q : CalledOn s u) → (Follows R c) s.belongings u (packets_since s u k q)
  unfolding packets_since
  follows s u k not_yet = follows_itself s k
  follows s u k (calls-on {t = v} d e n m) = call-follows s.belongings e (record { state = v; mem = m }) (packets_since s v k d) n (follows s v k d)

  -- of the device's own: the packets of the submissions answered good since
  pub carried-between-resets : (s t : State) (k : Called s) (q : CalledOn s t) → R (packets_since s t k q).by_good s.belongings t.belongings
  carried-between-resets s t k q = (follows s t k q).own

  -- and of what a submission holds while it is in work: those and its own so far
  pub carried-in-work : (s t : State) (k : Called s) (q : CalledOn s t) → (InWork R c) (packets_since s t k q).in_work t.belongings t.work
  carried-in-work s t k q = (follows s t k q).work
