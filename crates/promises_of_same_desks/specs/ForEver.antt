-- Two devices that are the same desk behave the same for ever: whatever a host asks of both, over whatever memories, buffers and files, each is told the
-- same and they stay the same desk. So a desk that was saved and is loaded elsewhere goes on exactly as the one that was saved would have. Assumes nothing.
use Rattle.std.specs.Prelude.{◌≡◌, List, [], ◌∷◌, ℕ}
use Rattle.std.proofs.Common.{ap}
use Rattle.rules.specs.State.{State}
use Rattle.rules.specs.Saved.{Saved, not_saved, call_save}
use Rattle.rules.specs.Loaded.{call_load, call_move}
use Rattle.promises_of_submissions.specs.Locality.{lent}
use Rattle.promises_of_units.specs.Sound.{SoundState}
use Rattle.promises_of_units.specs.Called.{after}
use Rattle.promises_of_units.specs.Replies.{Reply, reply_to}
use Rattle.promises_of_units.specs.Asked.{Asked, left, left_all}
use Rattle.promises_of_units.specs.Asked.Asked.{calls, saves, loads, moves}
use Rattle.promises_of_same_desks.specs.Desks.{SameDesk}

-- and all that it is told: what the call replies and the memory that it leaves; a save's answer, length and buffer, and so a move's; a load's answer and
-- place
pub data Told : Type 0 where
  replied : Reply → List ℕ → Told
  filed : Saved → Told
  judged : ℕ → ℕ → Told

unfoldable pub told : Asked → State → Told
told (calls c m) s = replied (reply_to c (lent s m)) (after c (lent s m)).mem
told (saves f buffer) s = filed (call_save f s buffer)
told (loads b) s = judged (call_load s b).answer (call_load s b).place
told (moves b buffer) s = filed (call_move b buffer)

-- one after the other: nothing is asked of how the memories hang together
unfoldable pub told_all : List Asked → State → List Told
told_all [] s = []
told_all (a ∷ qs) s = told a s ∷ told_all qs (left a s)

-- ---- any, for ever

-- every one of them is told the same, and they are the same desk after it
pub record SameForEver (s t : State) : Type 0 where
  pub told : (qs : List Asked) → told_all qs s ≡ told_all qs t
  pub left : (qs : List Asked) → SameDesk (left_all qs s) (left_all qs t)

-- ---- and no two others at rest do

unfoldable pub first_told : List Told → Told
first_told [] = judged 0 0
first_told (x ∷ xs) = x

unfoldable pub saved_in : Told → Saved
saved_in (replied r m) = not_saved 0 m
saved_in (filed x) = x
saved_in (judged answer place) = not_saved 0 []
