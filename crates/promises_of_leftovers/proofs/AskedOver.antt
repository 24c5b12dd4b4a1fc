-- The theorems of specs/AskedOver.antt, and what they rest on. Assumes nothing.
use Rattle.std.specs.Prelude.{◌≡◌, ℕ}
use Rattle.std.proofs.Math.Path.{refl, ap}
use Rattle.std.proofs.Common.{sym, ◌∙◌}
use mathlib.Core.List.{List, [], ◌∷◌, map}
use Rattle.rules.specs.State.{State, World}
use Rattle.rules.specs.Saved.{call_save}
use Rattle.rules.specs.Loaded.{call_load}
use Rattle.promises_of_packets.specs.Held.{Every, every_front, every_back}
use Rattle.promises_of_submissions.specs.Reads.{SameIn}
use Rattle.promises_of_submissions.specs.Locality.{lent}
use Rattle.promises_of_units.specs.Called.{Call, after, after_all}
use Rattle.promises_of_units.specs.Replies.{Reply, reply_to}
use Rattle.promises_of_units.specs.Asked.{Asked, left, left_all}
use Rattle.promises_of_units.specs.Asked.Asked.{calls, saves, loads, moves}
use Rattle.promises_of_same_desks.specs.ForEver.{told, told_all}
use Rattle.promises_of_same_desks.specs.ForEver.Told.{replied, filed, judged}
use Rattle.promises_of_leftovers.specs.Unit.{SameStill, still-there, still-on, still-agree-on}
use Rattle.promises_of_leftovers.specs.Course.{call_units_listed, Alike, Still}
use Rattle.promises_of_leftovers.proofs.Course.{call-leads-alike}
use Rattle.promises_of_leftovers.specs.Submissions.{There, InWork}
use Rattle.promises_of_leftovers.proofs.Submissions.{call-covered, in-work-at-first}
use Rattle.promises_of_leftovers.specs.Matter.{replies_of, AgreeOnListed, SameResults}
use Rattle.promises_of_leftovers.proofs.Matter.{reply-alike, bytes-not-listed-cannot-matter}
use Rattle.promises_of_leftovers.specs.AskedOver.{AgreeOnListedAsked, AllAlike, AskedAlike, OneAlike, SameResultsAsked, SameResultsMoving, asked_openings, asked_opens, but_memory, first_reply, leaves, leaves_all, lent-leads, over, over-leads, works-loaded}
use Rattle.promises_of_leftovers.specs.AskedOver.AskedAlike.{all_asked, by_call, by_load, by_move, by_save}

-- ---- one of them

module _ (m m' : List ℕ) where
  one_alike : (a : Asked) (x x' : World) → SameStill m m' x x' → InWork (SameIn m m') x → Every (There (SameIn m m')) (asked_opens a x) → (OneAlike m m') a x x'
  unfolding told
  one_alike (calls c _) x x' k i s =
      let one : Every (SameIn m m') (call_units_listed c x) × InWork (SameIn m m') (after c x) = call-covered (SameIn m m') c x i s in
      let now : Alike x x' (call_units_listed c x) = still-agree-on m m' x.mem x'.mem k.long k.still (call_units_listed c x) one.0 in
      let end : Still x x' (after c x) (after c x') = call-leads-alike x x' k.state k.long c now in
      record { tells = ap (λ (r : Reply). replied r []) (reply-alike x x' k.state k.long c now); leads = still-on k.still end; works = one.1 }
  one_alike (saves f buffer) x x' k i s = record { tells = ap (λ (t : State). filed (call_save f t buffer)) k.state; leads = k; works = i }
  one_alike (loads b) x x' k i s =
      record {
        tells = ap (λ (t : State). judged (call_load t b).answer (call_load t b).place) k.state;
        leads = record { state = ap (λ (t : State). (call_load t b).state) k.state; long = k.long; still = k.still };
        works = (works-loaded m m') b x i;
      }
  one_alike (moves b buffer) x x' k i s = record { tells = refl; leads = k; works = i }

  -- ---- and any

  all_alike : (qs : List Asked) (x x' : World) → SameStill m m' x x' → InWork (SameIn m m') x → Every (There (SameIn m m')) (asked_openings qs x) → (AllAlike m m') qs x x'
  unfolding over leaves_all asked_openings told_all
  all_alike [] x x' k i s = record { tell = refl; lead = k }
  all_alike (a ∷ qs) x x' k i s =
      let one : (OneAlike m m') a x x' = one_alike a x x' k i (every_front (There (SameIn m m')) _ _ s) in
      let later : (AllAlike m m') qs (leaves a x) (leaves a x') =
      all_alike qs (leaves a x) (leaves a x') one.leads one.works (every_back (There (SameIn m m')) (asked_opens a x) _ s) in
      record { tell = rw (lent-leads a x, lent-leads a x', one.tells, later.tell); lead = later.lead }

-- ---- the theorem

pub whatever-is-asked-bytes-not-listed-cannot-matter : (qs : List Asked) (s : State) (m m' : List ℕ) → AgreeOnListedAsked qs s m m' → SameResultsAsked qs s m m'
whatever-is-asked-bytes-not-listed-cannot-matter qs s m m' same =
    let all : AllAlike m m' qs (lent s m) (lent s m') =
    all_alike m m' qs (lent s m) (lent s m') (still-there s m m' same.as_long) (in-work-at-first (SameIn m m') (lent s m) same.in_work) same.opened in
    record {
      told = all.tell;
      state = over-leads qs (lent s m) ∙ (all.lead.state ∙ sym (over-leads qs (lent s m')));
      bytes = all.lead.still;
    }

-- ---- memory may move: each call is lent a memory of its own

pub in-moving-memory-bytes-not-listed-cannot-matter : {s : State} {qs rs : List Asked} → AskedAlike s qs rs → SameResultsMoving s qs rs
unfolding told_all left_all told left replies_of after_all first_reply
in-moving-memory-bytes-not-listed-cannot-matter all_asked = record { told = refl; state = refl }
in-moving-memory-bytes-not-listed-cannot-matter {s} (by_call {rs = rs} c m m' same later) =
    let one : SameResults (c ∷ []) s m m' = bytes-not-listed-cannot-matter (c ∷ []) s m m' same in
    let r : reply_to c (lent s m) ≡ reply_to c (lent s m') = ap first_reply one.replies in
    let next : SameResultsMoving _ _ _ = in-moving-memory-bytes-not-listed-cannot-matter later in
    record {
      told = rw (r, next.told) (ap (λ (t : State). replied (reply_to c (lent s m')) [] ∷ map but_memory (told_all rs t)) one.state);
      state = next.state ∙ ap (left_all rs) one.state;
    }
in-moving-memory-bytes-not-listed-cannot-matter {s} (by_save f buffer later) =
    let next : SameResultsMoving _ _ _ = in-moving-memory-bytes-not-listed-cannot-matter later in
    record { told = rw next.told; state = next.state }
in-moving-memory-bytes-not-listed-cannot-matter {s} (by_load b later) =
    let next : SameResultsMoving _ _ _ = in-moving-memory-bytes-not-listed-cannot-matter later in
    record { told = rw next.told; state = next.state }
in-moving-memory-bytes-not-listed-cannot-matter {s} (by_move b buffer later) =
    let next : SameResultsMoving _ _ _ = in-moving-memory-bytes-not-listed-cannot-matter later in
    record { told = rw next.told; state = next.state }
