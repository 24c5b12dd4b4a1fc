-- The theorems of specs/Asked.antt, and what they rest on. Assumes nothing.
use Rattle.std.specs.Prelude.{◌≡◌, false, ℕ}
use Rattle.std.proofs.Math.Path.{refl, sym}
use Rattle.std.proofs.Common.{ap, ◌∙◌}
use mathlib.Core.List.{List, [], ◌∷◌, ◌++◌}
use Rattle.rules.specs.Lists.{Found}
use Rattle.rules.specs.Lists.Found.{none, found}
use Rattle.rules.specs.State.{State, World}
use Rattle.rules.specs.Loaded.{bad_place, loaded_or, call_load}
use Rattle.promises_of_units.specs.Called.{Call, after, Called}
use Rattle.promises_of_units.specs.Called.Called.{loads as was_loaded, calls as was_Called}
use Rattle.promises_of_units.specs.Events.{Event, Happens}
use Rattle.promises_of_units.proofs.Events.{call-has-events}
use Rattle.promises_of_units.specs.Changes.{completed_by, error_by, belongings_by, through}
use Rattle.promises_of_units.proofs.Changes.{call-says}
use Rattle.promises_of_units.specs.Asked.{Asked, Change, Course, Happened, SaysAll, change-by, changes, left, left_all, through-changes}
use Rattle.promises_of_units.specs.Asked.Asked.{calls, loads, moves, saves}
use Rattle.promises_of_units.specs.Asked.Change.{loading}
use Rattle.promises_of_units.specs.Asked.Course.{no_more, one_more}
use Rattle.promises_of_units.specs.Asked.Happened.{by-bad-file, by_call, by_load, by_move, by_save}

-- ---- there are such changes, whatever is asked

asked-happens : (a : Asked) (s : State) → (ds : List Change) × Happened s a ds (left a s)
unfolding left call_load
asked-happens (calls c m) s =
    let e : (es : List Event) × Happens (record { state = s; mem = m }) c es (after c (record { state = s; mem = m })) = call-has-events c (record { state = s; mem = m }) in
    (changes e.0, by_call c m e.1)
asked-happens (saves f buffer) s = ([], by_save f buffer)
asked-happens (loads b) s = by_found (bad_place b) refl
  where
    by_found : (f : Found ℕ) → bad_place b ≡ f → (ds : List Change) × Happened s (loads b) ds (loaded_or f b s).state
    by_found none e = (loading b ∷ [], by_load b e)
    by_found (found place) e = ([], by-bad-file b place e)
asked-happens (moves b buffer) s = ([], by_move b buffer)

pub asked-have-changes : (qs : List Asked) (s : State) → (ds : List Change) × Course s qs ds (left_all qs s)
unfolding left_all
asked-have-changes [] s = ([], no_more)
asked-have-changes (a ∷ qs) s =
    let here : (ds : List Change) × Happened s a ds (left a s) = asked-happens a s in
    let later : (ds : List Change) × Course (left a s) qs ds (left_all qs (left a s)) = asked-have-changes qs (left a s) in
    (here.0 ++ later.0, one_more here.1 later.1)

-- ---- and they say what is there after them

-- what changes make of something: events as they do, and a load whatever the file says
module _ {A : Type 0} (by : Event → A → A) (part : State → A) where
  through-both : (ds es : List Change) (a : A) → (through-changes by part) (ds ++ es) a ≡ (through-changes by part) es ((through-changes by part) ds a)
  unfolding through-changes
  through-both [] es a = refl
  through-both (d ∷ ds) es a = through-both ds es ((change-by by part) d a)

  through-events : (es : List Event) (a : A) → (through-changes by part) (changes es) a ≡ through by es a
  unfolding through-changes changes through
  through-events [] a = refl
  through-events (e ∷ es) a = through-events es (by e a)

  module _ (one : (w : World) (c : Call) (es : List Event) (w' : World) → Happens w c es w' → part w'.state ≡ through by es (part w.state)) where
    happened-through : (s : State) (a : Asked) (ds : List Change) (t : State) → Happened s a ds t → part t ≡ (through-changes by part) ds (part s)
    unfolding through-changes
    happened-through s a ds t (by_call {w' = w'} {es = es} c m h) = one (record { state = s; mem = m }) c es w' h ∙ sym (through-events es (part s))
    happened-through s a ds t (by_save f buffer) = refl
    happened-through s a ds t (by_move b buffer) = refl
    happened-through s a ds t (by_load b good) = refl
    happened-through s a ds t (by-bad-file b place e) = refl

    course-through : (s : State) (qs : List Asked) (ds : List Change) (t : State) → Course s qs ds t → part t ≡ (through-changes by part) ds (part s)
    unfolding through-changes
    course-through s qs ds t no_more = refl
    course-through s qs ds t (one_more {t = u} {a = a} {qs = rs} {ds = here} {es = later} h k) =
        course-through u rs later t k ∙ (ap ((through-changes by part) later) (happened-through s a here u h) ∙ sym (through-both here later (part s)))

pub course-says : (s : State) (qs : List Asked) (ds : List Change) (t : State) → Course s qs ds t → SaysAll s ds t
course-says s qs ds t k =
    record {
      completed = course-through completed_by (λ (x : State). x.regs.completed) (λ w c es w' h. (call-says w c es w' h).completed) s qs ds t k;
      error = course-through error_by (λ (x : State). x.regs.error) (λ w c es w' h. (call-says w c es w' h).error) s qs ds t k;
      belongings = course-through belongings_by (λ (x : State). x.belongings) (λ w c es w' h. (call-says w c es w' h).belongings) s qs ds t k;
    }

-- ---- whatever was asked of a device made and called, it is one still: a load between calls is one at the beginning

asked_called : (a : Asked) (s : State) → Called s → Called (left a s)
unfolding left call_load
asked_called (calls c m) s k = was_Called c m k
asked_called (saves f buffer) s k = k
asked_called (loads b) s k = by_found (bad_place b) refl
  where
    by_found : (f : Found ℕ) → bad_place b ≡ f → Called (loaded_or f b s).state
    by_found none e = was_loaded b e
    by_found (found place) e = k
asked_called (moves b buffer) s k = k

pub all_asked_called : (qs : List Asked) (s : State) → Called s → Called (left_all qs s)
unfolding left_all
all_asked_called [] s k = k
all_asked_called (a ∷ qs) s k = all_asked_called qs (left a s) (asked_called a s k)
