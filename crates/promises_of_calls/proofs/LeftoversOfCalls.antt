-- The theorems of specs/LeftoversOfCalls.antt, and what they rest on. Assumes nothing.
use Rattle.std.specs.Prelude.{◌≡◌, refl, List, [], ◌∷◌, map, ℕ}
use Rattle.std.proofs.Common.{sym, ap, ◌∙◌}
use Rattle.rules.specs.State.{State, World}
use Rattle.device.specs.Views.{state_of}
use Rattle.device.specs.declared.Device.{Device}
use Rattle.promises_of_submissions.specs.Reads.{SameIn, AgreeOn}
use Rattle.promises_of_submissions.specs.Locality.{lent}
use Rattle.promises_of_units.specs.Called.{Call, after_all}
use Rattle.promises_of_units.specs.Asked.{Asked, left_all}
use Rattle.promises_of_units.specs.Asked.Asked.{calls, saves, loads, moves}
use Rattle.promises_of_same_desks.specs.ForEver.{told, told_all}
use Rattle.promises_of_leftovers.specs.Unit.{SameStill}
use Rattle.promises_of_leftovers.specs.Course.{calls_units_listed}
use Rattle.promises_of_leftovers.proofs.Course.{calls-lead-alike}
use Rattle.promises_of_leftovers.proofs.Submissions.{listed-covers}
use Rattle.promises_of_leftovers.specs.Matter.{AgreeOnListed}
use Rattle.promises_of_leftovers.proofs.Matter.{replies-alike}
use Rattle.promises_of_leftovers.specs.AskedOver.{lend, leaves, over, but_memory, lent-leads, AgreeOnListedAsked, SameResultsAsked}
use Rattle.promises_of_leftovers.proofs.AskedOver.{whatever-is-asked-bytes-not-listed-cannot-matter}
use Rattle.promises_of_calls.specs.Layers.{Layer, standing}
use Rattle.promises_of_calls.specs.Chains.{Chain}
use Rattle.promises_of_calls.proofs.Chains.{chain-is-calls}
use Rattle.promises_of_calls.specs.SameDesks.{Heard, Course, hear, hear_all, AsTold}
use Rattle.promises_of_calls.proofs.SameDesks.{course-is-told}
use Rattle.promises_of_calls.specs.LeftoversOfCalls.{ChainsAlike, ExportsAlike, but_its_memory, heard_of, next-heard, said-is-told}

-- ---- calls, in any layer

pub chains-alike : {L : Layer} {d d' e e' : L.Device} {m m' n n' : List ℕ} {cs : List Call} (a : Chain L d m cs d' m') (b : Chain L e n cs e' n')
    → L.state d ≡ L.state e → AgreeOnListed cs (L.state d) m n → ChainsAlike a b
chains-alike {L} {d} {d'} {e} {e'} {m} {m'} {n} {n'} {cs} a b same agree =
    let units : AgreeOn m n (calls_units_listed cs (standing L d m)) = listed-covers (SameIn m n) cs (standing L d m) agree.in_work agree.opened in
    let end : SameStill m n (after_all cs (standing L d m)) (after_all cs (standing L e n)) = calls-lead-alike cs (standing L d m) (standing L e n) same agree.as_long units in
    let ends : SameStill m n (standing L d' m') (standing L e' n') = rw ((chain-is-calls a).world, (chain-is-calls b).world) end in
    record {
      said = said-is-told a ∙ (replies-alike L.said cs (standing L d m) (standing L e n) same agree.as_long units ∙ sym (said-is-told b));
      state = ends.state;
      bytes = ends.still;
    }

-- ---- the exports, with saves, loads and moves among them: each call is lent what the one before it left

one-heard : (a : Asked) (w : World) → but_its_memory (hear (lend w.mem a) (told (lend w.mem a) w.state)) ≡ hear a (but_memory (told (lend w.mem a) w.state))
unfolding told
one-heard (calls c _) w = refl
one-heard (saves f buffer) w = refl
one-heard (loads b) w = refl
one-heard (moves b buffer) w = refl

all-heard : (qs : List Asked) (w : World)
    → map but_its_memory (hear_all (over qs w) w.state) ≡ heard_of qs (map but_memory (told_all (over qs w) w.state))
unfolding over hear_all told_all heard_of
all-heard [] w = refl
all-heard (a ∷ qs) w = rw (lent-leads a w) (next-heard (one-heard a w) (all-heard qs (leaves a w)))

pub exports-alike : {d d' e e' : Device} {xs ys : List Heard} (qs : List Asked) (m n : List ℕ) → Course d (over qs (lent (state_of d) m)) xs d'
    → Course e (over qs (lent (state_of e) n)) ys e' → state_of d ≡ state_of e → AgreeOnListedAsked qs (state_of d) m n → ExportsAlike xs ys d' e'
exports-alike {d} {d'} {e} {e'} {xs} {ys} qs m n p q same agree =
    let x : AsTold d (over qs (lent (state_of d) m)) xs d' = course-is-told p in
    let y : AsTold e (over qs (lent (state_of e) n)) ys e' = course-is-told q in
    let r : SameResultsAsked qs (state_of d) m n = whatever-is-asked-bytes-not-listed-cannot-matter qs (state_of d) m n agree in
    record {
      heard =
          ap (map but_its_memory) x.heard
          ∙ (all-heard qs (lent (state_of d) m)
          ∙ (ap (heard_of qs) r.told
          ∙ (sym (all-heard qs (lent (state_of d) n))
          ∙ (ap (λ (s : State). map but_its_memory (hear_all (over qs (lent s n)) s)) same ∙ sym (ap (map but_its_memory) y.heard)))));
      state = x.state ∙ (r.state ∙ (ap (λ (s : State). left_all (over qs (lent s n)) s) same ∙ sym y.state));
    }
