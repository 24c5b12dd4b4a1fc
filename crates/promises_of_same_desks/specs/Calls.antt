-- One call of two devices that are the same desk, lent the same memory: it says the same of both, leaves the same memory, and leaves the same desk.
-- Assumes nothing.
use Rattle.std.specs.Prelude.{◌≡◌, List, [], ◌∷◌, ℕ}
use Rattle.rules.specs.State.{State, World}
use Rattle.rules.specs.Registers.{Write, gives}
use Rattle.rules.specs.Calls.{Wrote, Ran}
use Rattle.promises_of_units.specs.Called.{Call, after}
use Rattle.promises_of_units.specs.Replies.{reply_to}
use Rattle.promises_of_same_desks.specs.Desks.{SameDesk, SameWorld}

-- ---- register writes

-- what writes give at the same offsets
pub data SameWrites : List Write → List Write → Type 0 where
  no_more : SameWrites [] []
  both : (at : ℕ) {s t : State} {xs ys : List Write} → SameDesk s t → SameWrites xs ys → SameWrites (gives at s ∷ xs) (gives at t ∷ ys)

pub record SameWrote (a b : Wrote) : Type 0 where
  pub answer : a.answer ≡ b.answer
  pub state : SameDesk a.state b.state

-- ---- runs and answers

pub record SameRan (r q : Ran) : Type 0 where
  pub answer : r.answer ≡ q.answer
  pub units : r.units ≡ q.units
  pub ended : r.ended ≡ q.ended
  pub world : SameWorld r.world q.world

-- ---- any of the five

-- the same is said, and the same is left
pub record SameCall (c : Call) (w v : World) : Type 0 where
  pub reply : reply_to c w ≡ reply_to c v
  pub world : SameWorld (after c w) (after c v)
