-- Wish 12, "bytes that cannot matter", of the rules' calls: two memories that agree on what is listed of the submissions that the calls open. Assumes nothing.
use Rattle.std.specs.Prelude.{◌≡◌, List, [], ◌∷◌, ℕ, length}
use Rattle.rules.specs.State.{State, World}
use Rattle.promises_of_packets.specs.Held.{Every}
use Rattle.promises_of_submissions.specs.Reads.{AgreeOn}
use Rattle.promises_of_submissions.specs.LocalWrites.{AgreeAt}
use Rattle.promises_of_submissions.specs.Locality.{lent}
use Rattle.promises_of_units.specs.Called.{Call, after, after_all}
use Rattle.promises_of_units.specs.Replies.{Reply, reply_to}
use Rattle.promises_of_leftovers.specs.Submissions.{openings, listed_there, listed_in_work}

-- ---- what calls reply, one after the other

-- as some host is told it
unfoldable pub replies_of : {X : Type 0} → (Call → Reply → X) → List Call → World → List X
replies_of say [] w = []
replies_of say (c ∷ cs) w = say c (reply_to c w) ∷ replies_of say cs (after c w)

-- ---- the theorem

abbrev pub as_it_is : Call → Reply → Reply
as_it_is c r = r

-- two courses of the same calls: every call replies the same (answer, units, how it ended, the register's value, the record); and in the end the devices have the same
-- registers, errors with their places, resources, names, tokens, and work with its records. A byte of memory that differs after them differed before.
pub record SameResults (cs : List Call) (s : State) (m m' : List ℕ) : Type 0 where
  pub replies : replies_of as_it_is cs (lent s m) ≡ replies_of as_it_is cs (lent s m')
  pub state : (after_all cs (lent s m)).state ≡ (after_all cs (lent s m')).state
  pub bytes : (i : ℕ) → AgreeAt i m m' → AgreeAt i (after_all cs (lent s m)).mem (after_all cs (lent s m')).mem

-- the two memories agree on what is listed: of the submission in work, what is still to be read; and of each submission that the calls open, as memory is when it is
-- opened, all of it
pub record AgreeOnListed (cs : List Call) (s : State) (m m' : List ℕ) : Type 0 where
  pub as_long : length m ≡ length m'
  pub in_work : AgreeOn m m' (listed_in_work s m)
  pub opened : Every (λ (v : World). AgreeOn m m' (listed_there v)) (openings cs (lent s m))
