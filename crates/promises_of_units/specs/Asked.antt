-- All that a host asks of a device: the five calls, saves, loads and moves, in any order. What happens to the device, in order: the calls' events, and
-- loads of good files. The completed fence, the error and the belongings are what these make of them, so between a make, a reset or a load and the next
-- reset or load what is said of calls holds. Assumes nothing.
use Rattle.std.specs.Prelude.{◌≡◌, Bool, true, false, ℕ}
use Rattle.std.proofs.Math.Path.{refl}
use Rattle.std.proofs.Common.{arith}
use mathlib.Core.List.{List, [], ◌∷◌, ◌++◌}
use Rattle.rules.specs.Lists.{Found}
use Rattle.rules.specs.Lists.Found.{none, found}
use Rattle.rules.specs.State.{State, World}
use Rattle.rules.specs.Loaded.{bad_place, loaded, loaded_or, call_load}
use Rattle.rules.specs.declared.Form.{Form}
use Rattle.promises_of_packets.specs.Held.{Every}
use Rattle.promises_of_units.specs.Called.{Call, after, is_reset}
use Rattle.promises_of_units.specs.Events.{Event, Happens}
use Rattle.promises_of_units.specs.Changes.{completed_by, error_by, belongings_by}

-- ---- what a host asks

-- one of the five calls, lent this memory; a save in a form, lent this buffer; a load of this file; or a move of this file, lent this buffer
pub data Asked : Type 0 where
  calls : Call → List ℕ → Asked
  saves : Form → List ℕ → Asked
  loads : List ℕ → Asked
  moves : List ℕ → List ℕ → Asked

-- the device after it
unfoldable pub left : Asked → State → State
left (calls c m) s = (after c (record { state = s; mem = m })).state
left (saves f buffer) s = s
left (loads b) s = (call_load s b).state
left (moves b buffer) s = s

unfoldable pub left_all : List Asked → State → State
left_all [] s = s
left_all (a ∷ qs) s = left_all qs (left a s)

-- ---- what happens to the device

-- an event of a call, or a load of a good file
pub data Change : Type 0 where
  event : Event → Change
  loading : List ℕ → Change

unfoldable pub changes : List Event → List Change
changes [] = []
changes (e ∷ es) = event e ∷ changes es

-- what is asked, and its changes
pub data Happened (s : State) : Asked → List Change → State → Type 0 where
  by_call : {w' : World} {es : List Event} (c : Call) (m : List ℕ) → Happens (record { state = s; mem = m }) c es w' → Happened s (calls c m) (changes es) w'.state
  by_save : (f : Form) (buffer : List ℕ) → Happened s (saves f buffer) [] s
  by_move : (b buffer : List ℕ) → Happened s (moves b buffer) [] s
  by_load : (b : List ℕ) → bad_place b ≡ none → Happened s (loads b) (loading b ∷ []) (loaded b)
  by-bad-file : (b : List ℕ) (place : ℕ) → bad_place b ≡ found place → Happened s (loads b) [] s

-- one after the other
pub data Course : State → List Asked → List Change → State → Type 0 where
  no_more : {s : State} → Course s [] [] s
  one_more : {s t u : State} {a : Asked} {qs : List Asked} {ds es : List Change} → Happened s a ds t → Course t qs es u → Course s (a ∷ qs) (ds ++ es) u

-- ---- and they say what is there after them

-- what changes make of something: events as they do, and a load whatever the file says
module _ {A : Type 0} (by : Event → A → A) (part : State → A) where
  abbrev pub change-by : Change → A → A
  change-by (event e) a = by e a
  change-by (loading b) a = part (loaded b)

  unfoldable pub through-changes : List Change → A → A
  through-changes [] a = a
  through-changes (d ∷ ds) a = through-changes ds (change-by d a)

-- the completed fence, the error registers, the device's resources and tokens
pub record SaysAll (s : State) (ds : List Change) (t : State) : Type 0 where
  pub completed : t.regs.completed ≡ through-changes completed_by (λ (x : State). x.regs.completed) ds s.regs.completed
  pub error : t.regs.error ≡ through-changes error_by (λ (x : State). x.regs.error) ds s.regs.error
  pub belongings : t.belongings ≡ through-changes belongings_by (λ (x : State). x.belongings) ds s.belongings

-- ---- neither a reset nor a load of a good file

abbrev pub is_none : Found ℕ → Bool
is_none none = true
is_none (found place) = false

abbrev pub resets_or_loads : Asked → Bool
resets_or_loads (calls c m) = is_reset c
resets_or_loads (saves f buffer) = false
resets_or_loads (loads b) = is_none (bad_place b)
resets_or_loads (moves b buffer) = false

abbrev pub NoResetOrLoad : List Asked → Type 0
NoResetOrLoad = Every (λ (a : Asked). resets_or_loads a ≡ false)

-- such a load leaves the device
pub bad-file-leaves : (b : List ℕ) (s : State) → is_none (bad_place b) ≡ false → left (loads b) s ≡ s
unfolding left call_load
bad-file-leaves b s = by_found (bad_place b)
  where
    by_found : (f : Found ℕ) → is_none f ≡ false → (loaded_or f b s).state ≡ s
    by_found none e = absurd (let z : ◌≡◌ {A = ℕ} 0 1 = cc in omega arith)
    by_found (found place) e = refl
