-- Two devices of a host that are the same desk, in any layer: whatever calls are made of both, lent whatever memories, each says the same and leaves the same
-- memory, and the devices stay the same desk. Of the exports, saves, loads and moves are joined to the calls. So a device that was loaded from what another one
-- saved goes on as that one would have. Assumes nothing.
use Rattle.std.specs.Prelude.{◌≡◌, List, [], ◌∷◌, ℕ}
use Rattle.rules.specs.State.{State}
use Rattle.rules.specs.declared.Form.{Form}
use Rattle.device.specs.Views.{state_of}
use Rattle.device.specs.declared.Device.{Device}
use Rattle.export_numbers.specs.Numbers.{said_beside}
use Rattle.zelezmut.specs.Said.{SaysSaved, SaysLoaded, SaysMoved}
use Rattle.promises_of_units.specs.Called.{Call}
use Rattle.promises_of_units.specs.Replies.{Reply}
use Rattle.promises_of_same_desks.specs.Desks.{SameDesk}
use Rattle.promises_of_same_desks.specs.ForEver.{Told, told}
use Rattle.promises_of_units.specs.Asked.{Asked, left, left_all}
use Rattle.promises_of_units.specs.Asked.Asked.{calls, saves, loads, moves}
use Rattle.promises_of_same_desks.specs.ForEver.Told.{replied, filed, judged}
use Rattle.promises_of_calls.specs.Layers.{Layer}
use Rattle.promises_of_calls.specs.OverLent.{with_loaded}
use Rattle.promises_of_calls.specs.Exports.{Said, said, returning, Gives}

-- a call, and the memory that it is lent
pub record Lends : Type 0 where
  pub call : Call
  pub memory : List ℕ

-- what it said, and the memory that it left
pub record Leaves (L : Layer) : Type 0 where
  pub said : L.Said
  pub memory : List ℕ

-- calls that were made of a device one after the other, each lent a memory, whatever the one before left: what they said and left, and the device after them
pub data Goes (L : Layer) : L.Device → List Lends → List (Leaves L) → L.Device → Type 0 where
  stays : {d : L.Device} → Goes L d [] [] d
  goes : {d d' e : L.Device} {qs : List Lends} {xs : List (Leaves L)} (c : Call) (m : List ℕ) (x : L.Said) (m' : List ℕ) → L.Gives d m c x d' m' → Goes L d' qs xs e
      → Goes L d (record { call = c; memory = m } ∷ qs) (record { said = x; memory = m' } ∷ xs) e

-- ---- one call

pub record SameGiven (L : Layer) (x y : L.Said) (m n : List ℕ) (d e : L.Device) : Type 0 where
  pub said : x ≡ y
  pub memory : m ≡ n
  pub devices : SameDesk (L.state d) (L.state e)

-- ---- any calls

pub record SameCourse (L : Layer) (xs ys : List (Leaves L)) (d e : L.Device) : Type 0 where
  pub said : xs ≡ ys
  pub devices : SameDesk (L.state d) (L.state e)

-- ---- the exports, with saves, loads and moves among them

-- what a host hears: the number that an export returned, with a record's words; beside a call the memory that it left, beside a save and a move the buffer
pub data Heard : Type 0 where
  beside_memory : Said → List ℕ → Heard
  beside_buffer : ℕ → List ℕ → Heard
  alone : ℕ → Heard

-- exports that were called one after the other, each lent a memory, a buffer or a file of its own
pub data Course : Device → List Asked → List Heard → Device → Type 0 where
  ends : {d : Device} → Course d [] [] d
  called : {d d' e : Device} {qs : List Asked} {xs : List Heard} (c : Call) (m : List ℕ) (x : Said) (m' : List ℕ) → Gives d m c x d' m' → Course d' qs xs e
      → Course d (calls c m ∷ qs) (beside_memory x m' ∷ xs) e
  saved : {d e : Device} {qs : List Asked} {xs : List Heard} (f : Form) (buffer : List ℕ) (n : ℕ) (buffer' : List ℕ)
      → SaysSaved f d.words d.first d.second d.firsttokens d.secondtokens buffer n buffer' → Course d qs xs e
      → Course d (saves f buffer ∷ qs) (beside_buffer n buffer' ∷ xs) e
  loaded : {d e : Device} {qs : List Asked} {xs : List Heard} (file : List ℕ) (n : ℕ) (s a ft : List ℕ) → SaysLoaded d.words d.first d.firsttokens file n s a ft
      → Course (with_loaded s a ft d) qs xs e → Course d (loads file ∷ qs) (alone n ∷ xs) e
  moved : {d e : Device} {qs : List Asked} {xs : List Heard} (file buffer : List ℕ) (n : ℕ) (buffer' : List ℕ) → SaysMoved file buffer n buffer' → Course d qs xs e
      → Course d (moves file buffer ∷ qs) (beside_buffer n buffer' ∷ xs) e

-- how what the rules tell is said
abbrev pub said_by : Asked → Reply → Said
said_by (calls c m) r = said c r
said_by (saves f buffer) r = returning 0
said_by (loads file) r = returning 0
said_by (moves file buffer) r = returning 0

abbrev pub hear : Asked → Told → Heard
hear a (replied r m) = beside_memory (said_by a r) m
hear a (filed x) = beside_buffer (said_beside x.length x.answer) x.buffer
hear a (judged answer place) = alone (said_beside place answer)

unfoldable pub hear_all : List Asked → State → List Heard
hear_all [] s = []
hear_all (a ∷ qs) s = hear a (told a s) ∷ hear_all qs (left a s)

-- a course hears what the rules tell, and leads where they lead
pub record AsTold (d : Device) (qs : List Asked) (xs : List Heard) (e : Device) : Type 0 where
  pub heard : xs ≡ hear_all qs (state_of d)
  pub state : state_of e ≡ left_all qs (state_of d)

pub heard-next : (x y : Heard) (xs ys : List Heard) → x ≡ y → xs ≡ ys → x ∷ xs ≡ y ∷ ys
heard-next x y xs ys e f = rw (e, f)

pub record SameHeard (xs ys : List Heard) (d e : Device) : Type 0 where
  pub heard : xs ≡ ys
  pub devices : SameDesk (state_of d) (state_of e)
