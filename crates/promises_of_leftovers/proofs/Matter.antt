-- The theorems of specs/Matter.antt, and what they rest on. Assumes nothing.
use Rattle.std.specs.Prelude.{◌≡◌, refl, List, [], ◌∷◌, ℕ, length}
use Rattle.std.proofs.Common.{ap}
use Rattle.rules.specs.State.{State, World}
use Rattle.promises_of_submissions.specs.Reads.{AgreeOn, SameIn}
use Rattle.promises_of_submissions.specs.LocalWrites.{AgreeAt}
use Rattle.promises_of_submissions.specs.Locality.{lent}
use Rattle.promises_of_units.specs.Called.{Call, after, after_all}
use Rattle.promises_of_units.specs.Called.Call.{writes, reads, runs, records, answers}
use Rattle.promises_of_units.specs.Replies.{Reply, reply_to}
use Rattle.promises_of_leftovers.specs.Opening.{front_of, back-of}
use Rattle.promises_of_leftovers.specs.Unit.{SameStill}
use Rattle.promises_of_leftovers.specs.Course.{call_units_listed, calls_units_listed, Alike, Still, SameReport, after-still}
use Rattle.promises_of_leftovers.proofs.Course.{run-call-alike, answer-call-alike, call-leads-alike, calls-lead-alike}
use Rattle.promises_of_leftovers.proofs.Submissions.{listed-covers}
use Rattle.promises_of_leftovers.specs.Matter.{AgreeOnListed, SameResults, as_it_is, replies_of}

-- ---- what calls reply, one after the other

module _ (x x' : World) (e : x.state ≡ x'.state) (len : length x.mem ≡ length x'.mem) where
  -- "records, errors, .. units": a read shows what the state has, a record call hands out what it has, a run reports alike
  pub reply-alike : (c : Call) → Alike x x' (call_units_listed c x) → reply_to c x ≡ reply_to c x'
  unfolding reply_to
  reply-alike (writes offset v) s = rw e
  reply-alike (reads offset) s = rw e
  reply-alike (runs n) s = let r : SameReport x x' _ _ = run-call-alike x x' e len n s in rw (r.answer, r.units, r.ended)
  reply-alike (records i) s = rw e
  reply-alike (answers good n) s = let r : SameReport x x' _ _ = answer-call-alike x x' e len good n s in rw (r.answer, r.units, r.ended)

pub replies-alike : {X : Type 0} (say : Call → Reply → X) (cs : List Call) (x x' : World) → x.state ≡ x'.state → length x.mem ≡ length x'.mem
    → Alike x x' (calls_units_listed cs x) → replies_of say cs x ≡ replies_of say cs x'
unfolding replies_of calls_units_listed
replies-alike say [] x x' e len same = refl
replies-alike say (c ∷ cs) x x' e len same =
    let here : Alike x x' (call_units_listed c x) = front_of x.mem x'.mem _ _ same in
    let one : Still x x' (after c x) (after c x') = call-leads-alike x x' e len c here in
    rw (reply-alike x x' e len c here)
    (ap (λ l. say c (reply_to c x') ∷ l)
    (replies-alike say cs (after c x) (after c x') one.state one.long
    (after-still x x' (after c x) (after c x') one (calls_units_listed cs (after c x)) (back-of x.mem x'.mem (call_units_listed c x) _ same))))

-- ---- the theorem

-- "Take two memories of one length, same device, same allowance and answers: if they agree on the named fields of the ring header, opened slots, tables, entries and
-- streams, every packet's opcode and size, and the fields of known packets, then records, errors, registers, units and resources are equal." Of any calls at all,
-- register writes too.
pub bytes-not-listed-cannot-matter : (cs : List Call) (s : State) (m m' : List ℕ) → AgreeOnListed cs s m m' → SameResults cs s m m'
bytes-not-listed-cannot-matter cs s m m' same =
    let units : AgreeOn m m' (calls_units_listed cs (lent s m)) = listed-covers (SameIn m m') cs (lent s m) same.in_work same.opened in
    let end : SameStill m m' (after_all cs (lent s m)) (after_all cs (lent s m')) = calls-lead-alike cs (lent s m) (lent s m') refl same.as_long units in
    record { replies = replies-alike as_it_is cs (lent s m) (lent s m') refl same.as_long units; state = end.state; bytes = end.still }
