-- Wish 12 with saves, loads and moves among the calls: they read and write no byte of guest memory, and a load makes the same device of both. Assumes nothing.
use Rattle.std.specs.Prelude.{◌≡◌, ℕ, length}
use Rattle.std.proofs.Math.Path.{refl, ap}
use Rattle.std.proofs.Common.{◌∙◌}
use mathlib.Core.List.{List, [], ◌∷◌, ◌++◌, map}
use Rattle.rules.specs.Lists.{Found}
use Rattle.rules.specs.Lists.Found.{none, found}
use Rattle.rules.specs.State.{State, World, with_state}
use Rattle.rules.specs.Loaded.{bad_place, loaded_sections, loaded, loaded_or, call_load}
use Rattle.rules.specs.declared.Form.{Form}
use Rattle.promises_of_packets.specs.Held.{Every}
use Rattle.promises_of_submissions.specs.Reads.{SameIn, AgreeOn}
use Rattle.promises_of_submissions.specs.LocalWrites.{AgreeAt}
use Rattle.promises_of_submissions.specs.Locality.{lent}
use Rattle.promises_of_units.specs.Called.{Call, after}
use Rattle.promises_of_units.specs.Replies.{Reply, answering}
use Rattle.promises_of_units.specs.Asked.{Asked, left, left_all}
use Rattle.promises_of_units.specs.Asked.Asked.{calls, saves, loads, moves}
use Rattle.promises_of_same_desks.specs.ForEver.{Told, told, told_all}
use Rattle.promises_of_same_desks.specs.ForEver.Told.{replied, filed, judged}
use Rattle.promises_of_leftovers.specs.Unit.{SameStill}
use Rattle.promises_of_leftovers.specs.Submissions.{call_openings, listed_there, listed_in_work, InWork, no-work}
use Rattle.promises_of_leftovers.specs.Matter.{AgreeOnListed}

-- ---- over one memory

-- what is asked, lent this memory if it is a call
abbrev pub lend : List ℕ → Asked → Asked
lend m (calls c _) = calls c m
lend m (saves f buffer) = saves f buffer
lend m (loads b) = loads b
lend m (moves b buffer) = moves b buffer

-- device and memory after it
abbrev pub leaves : Asked → World → World
leaves (calls c _) w = after c w
leaves (saves f buffer) w = w
leaves (loads b) w = with_state (call_load w.state b).state w
leaves (moves b buffer) w = w

unfoldable pub leaves_all : List Asked → World → World
leaves_all [] w = w
leaves_all (a ∷ qs) w = leaves_all qs (leaves a w)

-- the same asked one after the other, each call lent what the one before it left
unfoldable pub over : List Asked → World → List Asked
over [] w = []
over (a ∷ qs) w = lend w.mem a ∷ over qs (leaves a w)

-- the worlds in which a submission is opened: no save, load or move opens one
abbrev pub asked_opens : Asked → World → List World
asked_opens (calls c _) w = call_openings c w
asked_opens (saves f buffer) w = []
asked_opens (loads b) w = []
asked_opens (moves b buffer) w = []

unfoldable pub asked_openings : List Asked → World → List World
asked_openings [] w = []
asked_openings (a ∷ qs) w = asked_opens a w ++ asked_openings qs (leaves a w)

-- what is told, but for the memory that a call left
abbrev pub but_memory : Told → Told
but_memory (replied r m) = replied r []
but_memory (filed x) = filed x
but_memory (judged answer place) = judged answer place

-- ---- one of them

pub lent-leads : (a : Asked) (w : World) → left (lend w.mem a) w.state ≡ (leaves a w).state
unfolding left
lent-leads (calls c _) w = refl
lent-leads (saves f buffer) w = refl
lent-leads (loads b) w = refl
lent-leads (moves b buffer) w = refl

module _ (m m' : List ℕ) where
  pub record OneAlike (a : Asked) (x x' : World) : Type 0 where
    pub tells : but_memory (told (lend x.mem a) x.state) ≡ but_memory (told (lend x'.mem a) x'.state)
    pub leads : SameStill m m' (leaves a x) (leaves a x')
    pub works : InWork (SameIn m m') (leaves a x)

  -- after a load of a good file no submission is in work; a bad file leaves the device as it was
  pub works-loaded : (b : List ℕ) (x : World) → InWork (SameIn m m') x → InWork (SameIn m m') (leaves (loads b) x)
  unfolding call_load loaded loaded_sections
  works-loaded b x i = by_found (bad_place b)
    where
      by_found : (f : Found ℕ) → InWork (SameIn m m') (with_state (loaded_or f b x.state).state x)
      by_found none = no-work (SameIn m m') (with_state (loaded b) x) refl
      by_found (found place) = i

  -- ---- and any

  pub record AllAlike (qs : List Asked) (x x' : World) : Type 0 where
    pub tell : map but_memory (told_all (over qs x) x.state) ≡ map but_memory (told_all (over qs x') x'.state)
    pub lead : SameStill m m' (leaves_all qs x) (leaves_all qs x')

pub over-leads : (qs : List Asked) (w : World) → left_all (over qs w) w.state ≡ (leaves_all qs w).state
unfolding over left_all leaves_all
over-leads [] w = refl
over-leads (a ∷ qs) w = ap (left_all (over qs (leaves a w))) (lent-leads a w) ∙ over-leads qs (leaves a w)

-- ---- the theorem

-- the two memories agree on what is listed of what is asked
pub record AgreeOnListedAsked (qs : List Asked) (s : State) (m m' : List ℕ) : Type 0 where
  pub as_long : length m ≡ length m'
  pub in_work : AgreeOn m m' (listed_in_work s m)
  pub opened : Every (λ (v : World). AgreeOn m m' (listed_there v)) (asked_openings qs (lent s m))

-- all that is told is the same, but for the memory that is left; so is the device; and a byte that differs after it differed before
pub record SameResultsAsked (qs : List Asked) (s : State) (m m' : List ℕ) : Type 0 where
  pub told : map but_memory (told_all (over qs (lent s m)) s) ≡ map but_memory (told_all (over qs (lent s m')) s)
  pub state : left_all (over qs (lent s m)) s ≡ left_all (over qs (lent s m')) s
  pub bytes : (i : ℕ) → AgreeAt i m m' → AgreeAt i (leaves_all qs (lent s m)).mem (leaves_all qs (lent s m')).mem

-- ---- memory may move: each call is lent a memory of its own

-- the same is asked twice; the two memories of each call agree on what is listed for it
pub data AskedAlike : State → List Asked → List Asked → Type 0 where
  all_asked : {s : State} → AskedAlike s [] []
  by_call : {s : State} {qs rs : List Asked} (c : Call) (m m' : List ℕ) → AgreeOnListed (c ∷ []) s m m' → AskedAlike (left (calls c m) s) qs rs
      → AskedAlike s (calls c m ∷ qs) (calls c m' ∷ rs)
  by_save : {s : State} {qs rs : List Asked} (f : Form) (buffer : List ℕ) → AskedAlike s qs rs → AskedAlike s (saves f buffer ∷ qs) (saves f buffer ∷ rs)
  by_load : {s : State} {qs rs : List Asked} (b : List ℕ) → AskedAlike (left (loads b) s) qs rs → AskedAlike s (loads b ∷ qs) (loads b ∷ rs)
  by_move : {s : State} {qs rs : List Asked} (b buffer : List ℕ) → AskedAlike s qs rs → AskedAlike s (moves b buffer ∷ qs) (moves b buffer ∷ rs)

unfoldable pub first_reply : List Reply → Reply
first_reply [] = answering 0
first_reply (r ∷ rs) = r

pub record SameResultsMoving (s : State) (qs rs : List Asked) : Type 0 where
  pub told : map but_memory (told_all qs s) ≡ map but_memory (told_all rs s)
  pub state : left_all qs s ≡ left_all rs s
