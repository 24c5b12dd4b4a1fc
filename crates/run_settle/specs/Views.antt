-- How a submission is settled on the device's words: as the rules' state is. Assumes nothing.
use Rattle.std.specs.Prelude.{◌≡◌, Bool, not, ◌&&◌, ◌||◌, List, ℕ, ltb, get_or, set}
use Rattle.machine.specs.Machine.{pick}
use Rattle.rules.specs.Judging.Finding.{fine, broken}
use Rattle.rules.specs.Packets.{left_by}
use Rattle.rules.specs.Shapes.{larger}
use Rattle.rules.specs.Settle.{marked, settled, settled_keeping}
use Rattle.rules.specs.declared.Fault.{Fault}
use Rattle.run_state.specs.Views.{set_in, flag_of, registers_in, job_in, held_in, world_in, bare_in, rested, Rests, side_in, token_side_in, sides_in, desk_in}

-- the words with the job's fence signalled, and nothing in work
unfoldable pub signalled_words : List ℕ → List ℕ
signalled_words s =
    rested
    (set (set s 5 (larger (get_or s 5 0) (get_or s 16 0))) 6
    (flag_of (set_in (get_or s 6 0) || (ltb (get_or s 5 0) (get_or s 16 0) && not (set_in (get_or s 17 0))))))

pub record Signals (s s' : List ℕ) : Type 0 where
  pub words : s' ≡ signalled_words s

pub record Finishes (s m s' m' : List ℕ) : Type 0 where
  pub words : s' ≡ signalled_words s
  pub mem : m' ≡ marked (job_in s) (registers_in (signalled_words s)) m

-- the submission in work settled with a broken rule and its place, whatever the rows are; the same tables stay the device's, and no word
-- is left of the work
pub record Refuses (s m : List ℕ) (why : Fault) (s' m' : List ℕ) : Type 0 where
  pub world : (e r h dt ot c : List ℕ) → world_in s' e r h dt ot c m' ≡ settled_keeping (job_in s) (broken why) (bare_in s r dt m)
  pub side : sides_in s' ≡ sides_in s
  pub rests : Rests s'

-- the other side, if the submission has its own table
abbrev pub turned_if : Bool → Bool → Bool
turned_if side own = pick own (not side) side

-- by word `at`, one of two tables is the device's: the other one from now on, if word `own` says that the submission has it for its own
pub record Turns (at own : ℕ) (s s' : List ℕ) : Type 0 where
  pub side : ℕ
  pub words : s' ≡ set s at side
  pub turned : set_in side ≡ turned_if (set_in (get_or s at 0)) (set_in (get_or s own 0))

-- settled as good, whatever the rows of the tables are: those that the submission held are the device's, and no word is left of the work
pub record Accepts (s m s' m' : List ℕ) : Type 0 where
  pub world : (e a b ft st c : List ℕ) → desk_in s' e a b ft st c m'
      ≡ settled (job_in s) fine (left_by (held_in s (pick (side_in s) b a) (pick (side_in s) a b) (pick (token_side_in s) st ft) (pick (token_side_in s) ft st) c))
      (bare_in s (pick (side_in s) b a) (pick (token_side_in s) st ft) m)
  pub rests : Rests s'
