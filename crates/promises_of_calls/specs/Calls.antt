-- One call that a host made, in any layer: it says and leaves what the rules do; what a record call hands out, and what a run of one unit
-- reads; and two devices that mean the same state cannot be told apart. Assumes nothing.
use Rattle.std.specs.Prelude.{◌≡◌, Bool, List, [], ◌∷◌, ℕ, eqb}
use Rattle.std.proofs.Math.Path.{refl, ap}
use Rattle.std.proofs.Common.{sym, ◌∙◌}
use Rattle.machine.specs.Machine.{pick}
use Rattle.rules.specs.Numbers.{done}
use Rattle.rules.specs.State.{State, World}
use Rattle.rules.specs.Calls.{call_run, call_record, call_answer}
use Rattle.promises_of_units.specs.Called.{Call, after, units_of, taken_by}
use Rattle.promises_of_units.specs.Called.Call.{writes, reads, runs, records, answers}
use Rattle.promises_of_units.specs.Acts.{Act, in_a_row, acts_of}
use Rattle.promises_of_units.specs.Acts.Act.{write, answer}
use Rattle.promises_of_units.specs.Replies.{reply_to}
use Rattle.promises_of_submissions.specs.Locality.{lent, SameRun}
use Rattle.promises_of_calls.specs.Layers.{taken_in, Layer, standing}

-- ---- one call that was made

-- of which device and over which memory, what it said, and the device and the memory that it left
pub record CallMade (L : Layer) (c : Call) : Type 0 where
  pub of : L.Device
  pub over : List ℕ
  pub said : L.Said
  pub leaves : L.Device
  pub memory : List ℕ
  pub gives : L.Gives of over c said leaves memory

module _ {L : Layer} {c : Call} (k : CallMade L c) where
  -- the world before it, and the world after it
  abbrev pub before : World
  before = standing L k.of k.over

  abbrev pub afterwards : World
  afterwards = standing L k.leaves k.memory

  pub says-the-reply : k.said ≡ L.said c (reply_to c before)
  says-the-reply = L.gives-reply k.of k.over c k.said k.leaves k.memory k.gives

  pub leaves-the-world : afterwards ≡ after c before
  leaves-the-world = L.gives-world k.of k.over c k.said k.leaves k.memory k.gives

-- the acts of a call that said these units and this answer
abbrev pub acts_in : Call → ℕ → ℕ → List Act
acts_in (writes offset v) u a = write offset v ∷ []
acts_in (reads offset) u a = []
acts_in (runs n) u a = in_a_row u
acts_in (records i) u a = []
acts_in (answers good n) u a = pick (eqb a done) (answer good ∷ in_a_row u) []

reply-units : (c : Call) (w : World) → (reply_to c w).units ≡ units_of c w
unfolding reply_to units_of
reply-units (writes offset v) w = refl
reply-units (reads offset) w = refl
reply-units (runs n) w = refl
reply-units (records i) w = refl
reply-units (answers good n) w = refl

module _ (L : Layer) (w : World) (x : L.Said) where
  pub says-units : (c : Call) → x ≡ L.said c (reply_to c w) → L.units c x ≡ units_of c w
  says-units c e = ap (L.units c) e ∙ (L.units-read c w ∙ reply-units c w)

  pub says-answered : (good : Bool) (n : ℕ) → x ≡ L.said (answers good n) (reply_to (answers good n) w) → L.answered x ≡ (call_answer w good n).answer
  says-answered good n e = ap L.answered e ∙ L.answered-as good n w

  pub says-taken : (c : Call) → x ≡ L.said c (reply_to c w) → taken_in c (L.answered x) ≡ taken_by c w
  unfolding taken_by
  says-taken (writes offset v) e = refl
  says-taken (reads offset) e = refl
  says-taken (runs n) e = refl
  says-taken (records i) e = refl
  says-taken (answers good n) e = ap (taken_in (answers good n)) (says-answered good n e)

-- what it says and leaves is what the rules say and leave
pub record AsCall {L : Layer} {c : Call} (k : CallMade L c) : Type 0 where
  pub reply : k.said ≡ L.said c (reply_to c (before k))
  pub world : afterwards k ≡ after c (before k)
  pub units : L.units c k.said ≡ units_of c (before k)
  pub taken : taken_in c (L.answered k.said) ≡ taken_by c (before k)
  pub acts : acts_in c (L.units c k.said) (L.answered k.said) ≡ acts_of c (before k)

-- ---- a device that was made and called

-- any calls, each lent any memory at all, of whatever length
pub data MadeAndCalled (L : Layer) : L.Device → Type 0 where
  made_one : {d : L.Device} (memory : ℕ) → L.Makes memory d → MadeAndCalled L d
  -- or, in place of being made, loaded from a good file of whatever form
  loaded-one : {d : L.Device} (b : List ℕ) → L.Loads b d → MadeAndCalled L d
  called-one : {d d' : L.Device} (m m' : List ℕ) (c : Call) (x : L.Said) → L.Gives d m c x d' m' → MadeAndCalled L d → MadeAndCalled L d'

-- ---- record calls

module _ {L : Layer} (i : ℕ) (k : CallMade L (records i)) where
  pub hands_out : L.record_read k.said ≡ call_record (L.state k.of) i
  unfolding reply_to
  hands_out = ap L.record_read (says-the-reply k) ∙ L.record-read-as i (reply_to (records i) (before k))

-- ---- the same call of two devices that mean the same state

-- each of the five calls, over the same memory, says the same of both and leads to the same state and memory: words that no view reads
-- cannot be told apart
pub one-to-every-call : {L : Layer} {c : Call} (k l : CallMade L c) → L.state k.of ≡ L.state l.of → k.over ≡ l.over
    → (k.said ≡ l.said) × (L.state k.leaves ≡ L.state l.leaves) × (k.memory ≡ l.memory)
one-to-every-call {L} {c} k l same lends =
    let start : before k ≡ before l = ap (λ (s : State). lent s k.over) same ∙ ap (lent (L.state l.of)) lends in
    let end : afterwards k ≡ afterwards l = leaves-the-world k ∙ (ap (after c) start ∙ sym (leaves-the-world l)) in (
      says-the-reply k ∙ (ap (λ w. L.said c (reply_to c w)) start ∙ sym (says-the-reply l)),
      ap (λ (w : World). w.state) end,
      ap (λ (w : World). w.mem) end,
    )

pub same-reply : (w v : World) (m n : List ℕ) → SameRun m n (call_run w 1) (call_run v 1) → reply_to (runs 1) w ≡ reply_to (runs 1) v
unfolding reply_to
same-reply w v m n r = rw (r.answer, r.units, r.ended)
