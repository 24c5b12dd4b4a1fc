-- The theorems of specs/Calls.antt, and what they rest on. Assumes nothing.
use Rattle.std.specs.Prelude.{◌≡◌, true, ℕ, length}
use Rattle.std.proofs.Math.Path.{refl, ap}
use Rattle.std.proofs.Common.{sym, subst, ◌∙◌}
use Rattle.rules.specs.Numbers.{done, clips}
use Rattle.rules.specs.State.{State, World}
use Rattle.rules.specs.Steps.{go}
use Rattle.rules.specs.Calls.{RecordRead, call_run, call_answer}
use Rattle.promises_of_units.specs.Called.{Call, after, units_of, Called}
use Rattle.promises_of_units.specs.Called.Call.{writes, reads, runs, records, answers}
use Rattle.promises_of_units.specs.Called.Called.{makes, loads, calls}
use Rattle.promises_of_units.specs.Acts.{in_a_row, acts_of}
use Rattle.promises_of_units.specs.Ranges.{InOneEntry}
use Rattle.promises_of_units.proofs.Ranges.{ranges-at-the-record-call}
use Rattle.promises_of_units.specs.Replies.{reply_to}
use Rattle.promises_of_submissions.specs.Locality.{lent, SameWhereRead, SameEnd, SameRun}
use Rattle.promises_of_submissions.proofs.Locality.{run-of-one-reads-only}
use Rattle.promises_of_calls.specs.Layers.{Layer}
use Rattle.promises_of_calls.specs.Calls.{AsCall, CallMade, MadeAndCalled, acts_in, afterwards, before, hands_out, leaves-the-world, same-reply, says-answered, says-taken, says-the-reply, says-units}
use Rattle.promises_of_calls.specs.Calls.MadeAndCalled.{called-one, loaded-one, made_one}

-- ---- one call that was made

module _ (L : Layer) (w : World) (x : L.Said) where
  says-acts : (c : Call) → x ≡ L.said c (reply_to c w) → acts_in c (L.units c x) (L.answered x) ≡ acts_of c w
  unfolding acts_of units_of
  says-acts (writes offset v) e = refl
  says-acts (reads offset) e = refl
  says-acts (runs n) e = ap in_a_row ((says-units L w x) (runs n) e)
  says-acts (records i) e = refl
  says-acts (answers good n) e =
      ap (λ u. acts_in (answers good n) u (L.answered x)) ((says-units L w x) (answers good n) e) ∙ ap (acts_in (answers good n) (call_answer w good n).units) ((says-answered L w x) good n e)

-- of every call
pub call-is-the-rules : {L : Layer} {c : Call} (k : CallMade L c) → AsCall k
call-is-the-rules {L} {c} k =
    record {
      reply = says-the-reply k;
      world = leaves-the-world k;
      units = says-units L (before k) k.said c (says-the-reply k);
      taken = says-taken L (before k) k.said c (says-the-reply k);
      acts = says-acts L (before k) k.said c (says-the-reply k);
    }

-- ---- a device that was made and called

-- its state is one that the rules' calls lead to
pub made_and_called : (L : Layer) (d : L.Device) → MadeAndCalled L d → Called (L.state d)
made_and_called L d (made_one memory k) = subst Called (sym (L.makes-made memory d k)) (makes memory)
made_and_called L d (loaded-one b k) =
    let l = L.loads-loaded b d k in subst Called (sym l.1) (loads b l.0)
made_and_called L d (called-one {d = b} m m' c x k earlier) =
    subst (λ (w : World). Called w.state) (sym (L.gives-world b m c x d m' k)) (calls c m (made_and_called L b earlier))

-- ---- record calls

module _ {L : Layer} (i : ℕ) (k : CallMade L (records i)) where
  -- of a device that was made and called: a range handed out, a record of kind 1 to 3, lies inside exactly one entry of the table of the
  -- submission that waits, and inside memory
  pub handed-out-in-one-entry : MadeAndCalled L k.of → (L.record_read k.said).answer ≡ done → ((L.record_read k.said).range.kind ≡ clips → ⊥)
      → InOneEntry (L.state k.of) i (L.record_read k.said).range
  handed-out-in-one-entry c =
      subst (λ (h : RecordRead). h.answer ≡ done → (h.range.kind ≡ clips → ⊥) → InOneEntry (L.state k.of) i h.range) (sym (hands_out i k))
      (ranges-at-the-record-call (L.state k.of) (made_and_called L k.of c) i)

-- ---- the same call of two devices that mean the same state

-- a run of one unit over two memories of one length that hold the same bytes where the unit reads, whatever stands elsewhere: it says the
-- same, comes to the same state and writes the same. So a front that has read ahead, or reads again what it has kept, is shut out
pub run-of-one-reads-only-there : {L : Layer} (k l : CallMade L (runs 1)) → L.state k.of ≡ L.state l.of → length k.over ≡ length l.over
    → (go (before k) ≡ true → SameWhereRead (L.state k.of) k.over l.over) → (k.said ≡ l.said) × SameEnd k.over l.over (afterwards k) (afterwards l)
unfolding after
run-of-one-reads-only-there {L} k l same len read =
    let there : lent (L.state k.of) l.over ≡ before l = ap (λ (s : State). lent s l.over) same in
    let r : SameRun k.over l.over (call_run (before k) 1) (call_run (before l) 1) =
    subst (λ w. SameRun k.over l.over (call_run (before k) 1) (call_run w 1)) there (run-of-one-reads-only (L.state k.of) k.over l.over len read) in (
      says-the-reply k ∙ (ap (L.said (runs 1)) (same-reply (before k) (before l) k.over l.over r) ∙ sym (says-the-reply l)),
      rw (leaves-the-world k, leaves-the-world l) r.end,
    )
