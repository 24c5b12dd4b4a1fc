-- A device's words and tables as the rules' state: word 0 the memory's length, 1 to 12 the registers in the order of `Registers`, 13 the
-- tag of what is in work, 14 to 23 its numbers, 24 to 27 how many rows of each table are live, 28 which table of resources is the device's,
-- 29 whether the submission has the other for its own, 30 the last error's detail, 31 the submission's target; of tokens 32 and 33 how many the device
-- and the submission have, 34 which table is the device's, 35 whether the submission has the other for its own. Any words mean some state; those
-- of work are 0 where nothing is in work (`rested`).
use Rattle.std.specs.Prelude.{◌≡◌, Bool, true, false, List, [], ◌∷◌, ℕ, ◌%◌, eqb, ltb, get_or, set}
use Rattle.machine.specs.Machine.{pick}
use Rattle.rules.specs.Numbers.{most, most_tokens, done}
use Rattle.rules.specs.Packets.{Progress, Belongings}
use Rattle.rules.specs.State.{Work, State, World, registers_of}
use Rattle.rules.specs.State.Work.{resting, entries, packets, waiting}
use Rattle.rules.specs.declared.Registers.{Registers}
use Rattle.rules.specs.declared.Entry.{Entry}
use Rattle.rules.specs.declared.Token.{Token}
use Rattle.rules.specs.declared.Job.{Job}
use Rattle.rules.specs.declared.Table.{Table}
use Rattle.rules.specs.declared.Stream.{Stream}
use Rattle.rules.specs.declared.Opened.{Opened}
use Rattle.kept_entries.specs.Views.{entries_of}
use Rattle.kept_resources.specs.Views.{resources_of, progress_of}
use Rattle.kept_tokens.specs.Views.{tokens_of}

-- ---- one word

abbrev pub set_in : ℕ → Bool
set_in x = pick (eqb x 0) false true

abbrev pub flag_of : Bool → ℕ
flag_of b = pick b 1 0

abbrev pub small_in : ℕ → ℕ
small_in x = x % 4294967296

-- a count above the rows that there are means all of them
unfoldable pub count_in : ℕ → ℕ
count_in x = pick (ltb most x) most x

unfoldable pub token_count_in : ℕ → ℕ
token_count_in x = pick (ltb most_tokens x) most_tokens x

-- ---- some words

abbrev pub registers_in : List ℕ → Registers
registers_in s =
    registers_of (get_or s 1 0) (small_in (get_or s 2 0)) (set_in (get_or s 3 0)) (get_or s 4 0) (get_or s 5 0) (set_in (get_or s 6 0)) (set_in (get_or s 7 0))
    (small_in (get_or s 8 0)) (record { code = small_in (get_or s 9 0); fence = get_or s 10 0; count = small_in (get_or s 11 0); detail = small_in (get_or s 30 0) }) (set_in (get_or s 12 0))

abbrev pub tag_in : List ℕ → ℕ
tag_in s = get_or s 13 0

abbrev pub job_in : List ℕ → Job
job_in s = record { ring = get_or s 14 0; head = small_in (get_or s 15 0); signal = get_or s 16 0; silent = set_in (get_or s 17 0) }

abbrev pub table_in : List ℕ → Table
table_in s = record { gpa = get_or s 18 0; count = small_in (get_or s 19 0); stride = small_in (get_or s 20 0) }

abbrev pub stream_in : List ℕ → Stream
stream_in s = record { gpa = get_or s 21 0; size = small_in (get_or s 22 0) }

abbrev pub opened_in : List ℕ → Opened
opened_in s = record { job = job_in s; table = table_in s; stream = stream_in s }

abbrev pub place_in : List ℕ → ℕ
place_in s = get_or s 23 0

-- ---- words with the rows of tables

abbrev pub kept_in : List ℕ → List ℕ → List Entry
kept_in s e = entries_of (count_in (get_or s 24 0)) e

-- the device's resources and tokens, by the rows of its tables
abbrev pub belongings_in : List ℕ → List ℕ → List ℕ → Belongings
belongings_in s r dt =
    record { resources = resources_of (count_in (get_or s 25 0)) r; tokens = tokens_of (token_count_in (get_or s 32 0)) dt }

-- the submission's tokens: rows of the device's table until it has its own
abbrev pub held_tokens_in : List ℕ → List ℕ → List ℕ → List Token
held_tokens_in s dt ot = tokens_of (token_count_in (get_or s 33 0)) (pick (set_in (get_or s 35 0)) ot dt)

-- what the submission holds and its target, with these tokens: resources, too, are rows of the device's table until it has its own
abbrev pub held_with : List ℕ → List ℕ → List ℕ → List ℕ → List Token → Progress
held_with s r h c ts = progress_of (small_in (get_or s 31 0)) (count_in (get_or s 26 0)) (pick (set_in (get_or s 29 0)) h r) (count_in (get_or s 27 0)) c ts

-- the same with its own tokens
abbrev pub held_in : List ℕ → List ℕ → List ℕ → List ℕ → List ℕ → List ℕ → Progress
held_in s r h dt ot c = held_with s r h c (held_tokens_in s dt ot)

-- what is in work, by its tag: none 0, entries 1, packets 2; any other waits for the host
abbrev pub work_in : List ℕ → List ℕ → List ℕ → List ℕ → List ℕ → List ℕ → List ℕ → Work
work_in s e r h dt ot c =
    pick (eqb (tag_in s) 0) resting
    (pick (eqb (tag_in s) 1) (entries (opened_in s) (kept_in s e))
    (pick (eqb (tag_in s) 2) (packets (job_in s) (stream_in s) (place_in s) (kept_in s e) (held_in s r h dt ot c))
    (waiting (job_in s) (kept_in s e) (held_in s r h dt ot c))))

-- words, the rows of entries, of the device's resources, of the submission's own, of the device's tokens, of the submission's own, of records; and
-- the memory
unfoldable pub world_in : List ℕ → List ℕ → List ℕ → List ℕ → List ℕ → List ℕ → List ℕ → List ℕ → World
world_in s e r h dt ot c m =
    record {
      state = record { memory = get_or s 0 0; regs = registers_in s; belongings = belongings_in s r dt; work = work_in s e r h dt ot c };
      mem = m;
    }

-- the same with nothing in work
abbrev pub bare_in : List ℕ → List ℕ → List ℕ → List ℕ → World
bare_in s r dt m =
    record {
      state = record { memory = get_or s 0 0; regs = registers_in s; belongings = belongings_in s r dt; work = resting };
      mem = m;
    }

-- ---- at rest

-- the words that speak of work
abbrev pub work_words : List ℕ
work_words = 13 ∷ 14 ∷ 15 ∷ 16 ∷ 17 ∷ 18 ∷ 19 ∷ 20 ∷ 21 ∷ 22 ∷ 23 ∷ 24 ∷ 26 ∷ 27 ∷ 29 ∷ 31 ∷ 33 ∷ 35 ∷ []

abbrev pub zeroed : List ℕ → List ℕ → List ℕ
zeroed [] s = s
zeroed (k ∷ ks) s = zeroed ks (set s k 0)

-- the words once nothing is in work
unfoldable pub rested : List ℕ → List ℕ
rested s = zeroed work_words s

-- nothing is in work, and no word is left of what was
abbrev pub Rests : List ℕ → Type 0
Rests s = s ≡ rested s

-- ---- the two tables of resources and the two of tokens, as a host lends them

-- which of them is the device's: the second, where this is set
abbrev pub side_in : List ℕ → Bool
side_in s = set_in (get_or s 28 0)

abbrev pub token_side_in : List ℕ → Bool
token_side_in s = set_in (get_or s 34 0)

-- which tables are the device's, of resources and of tokens, as the words say it
pub record Sides : Type 0 where
  pub resources : ℕ
  pub tokens : ℕ

abbrev pub sides_in : List ℕ → Sides
sides_in s = record { resources = get_or s 28 0; tokens = get_or s 34 0 }

-- words, entries, the first and the second table of resources, the same of tokens, records; and the memory
abbrev pub desk_in : List ℕ → List ℕ → List ℕ → List ℕ → List ℕ → List ℕ → List ℕ → List ℕ → World
desk_in s e a b ft st c m =
    world_in s e (pick (side_in s) b a) (pick (side_in s) a b) (pick (token_side_in s) st ft) (pick (token_side_in s) ft st) c m

-- all that a call on memory is lent, each part by its name
pub record Lent : Type 0 where
  pub words : List ℕ
  pub entries : List ℕ
  pub first : List ℕ
  pub second : List ℕ
  pub first_tokens : List ℕ
  pub second_tokens : List ℕ
  pub records : List ℕ
  pub mem : List ℕ

abbrev pub lent : List ℕ → List ℕ → List ℕ → List ℕ → List ℕ → List ℕ → List ℕ → List ℕ → Lent
lent s e a b ft st c m =
    record { words = s; entries = e; first = a; second = b; first_tokens = ft; second_tokens = st; records = c; mem = m }

-- the device and the memory that stand there
abbrev pub desk_of : Lent → World
desk_of l = desk_in l.words l.entries l.first l.second l.first_tokens l.second_tokens l.records l.mem

-- the state alone
abbrev pub state_in : List ℕ → List ℕ → List ℕ → List ℕ → List ℕ → List ℕ → List ℕ → State
state_in s e a b ft st c = (desk_in s e a b ft st c []).state

-- a call's answer that refuses it
abbrev pub Refused : ℕ → Type 0
Refused answer = answer ≡ done → ⊥
