-- The bytes of guest memory over whole runs and any calls, resets among them: they are what the settlings wrote over those before, one after
-- the other, and a byte outside the heads and the pages of the submissions settled is what it was. Assumes nothing.
use Rattle.std.specs.Prelude.{◌≡◌, ◌⊎◌, ℕ, ◌≤◌, length, get_or}
use Rattle.std.proofs.Math.Path.{refl}
use Rattle.std.proofs.Common.{◌∙◌, arith, eq-eqb}
use mathlib.Core.List.{List, [], ◌∷◌}
use Rattle.rules.specs.Bytes.{bytes_of}
use Rattle.rules.specs.State.{World}
use Rattle.rules.specs.Registers.{reset}
use Rattle.rules.specs.Settle.{next_head, head_written, page_written, marked, settled}
use Rattle.rules.specs.declared.Job.{Job}
use Rattle.rules.specs.declared.Registers.{Registers}
use Rattle.settle.specs.Settling.{page_size, head_size}
use Rattle.settle.specs.Only.{Apart, head_at, written_byte, marked-length}
use Rattle.promises_of_packets.specs.Held.{Every}
use Rattle.promises_of_units.specs.Events.{Event}
use Rattle.promises_of_units.specs.Events.Event.{settling, ring_refusal, resetting}
use Rattle.promises_of_units.specs.Changes.{through, ChangedBy}

-- what an event makes of memory: a settling writes the head of its ring and the fence page, by the registers that it leaves; nothing else
-- writes
abbrev pub marked_by : Event → List ℕ → List ℕ
marked_by (settling j v rs s) m = marked j s.regs m
marked_by ring_refusal m = m
marked_by resetting m = m

-- a byte's place lies outside what an event writes: the 4 bytes of the head, and the 16 of the page, where there is a page
abbrev pub Outside : ℕ → Event → Type 0
Outside i (settling j v rs s) = Apart i 1 (head_at j) head_size × ((s.regs.fencepage ≡ 0) ⊎ Apart i 1 s.regs.fencepage page_size)
Outside i ring_refusal = 0 ≤ 0
Outside i resetting = 0 ≤ 0

-- an event that writes nothing
abbrev pub Silent : Event → Type 0
Silent (settling j v rs s) = ⊥
Silent ring_refusal = 0 ≤ 0
Silent resetting = 0 ≤ 0

pub memory-changed : ChangedBy marked_by (λ w. w.mem)
unfolding settled reset
memory-changed =
    record {
      works = λ k w. refl;
      finds-nothing = λ w. refl;
      refuses-ring = λ w. refl;
      settles-good = λ j rs w. refl;
      settles-broken = λ j r rs w. refl;
      writes = λ r w d e. refl;
      resets = λ enabled w. refl;
    }

-- ---- what each event keeps, any number of them keep

module _ {A : Type 0} (part : List ℕ → A) (P : Event → Type 0) (one : (e : Event) (m : List ℕ) → P e → part (marked_by e m) ≡ part m) where
  pub through-keeps : (es : List Event) (m : List ℕ) → Every P es → part (through marked_by es m) ≡ part m
  unfolding through Every
  through-keeps [] m h = refl
  through-keeps (e ∷ es) m h = through-keeps es (marked_by e m) h.1 ∙ one e m h.0

pub silent-keeps : (e : Event) (m : List ℕ) → Silent e → marked_by e m ≡ m
silent-keeps (settling j v rs s) m h = absurd h
silent-keeps ring_refusal m h = refl
silent-keeps resetting m h = refl

-- without a page only the head is written
pub pageless-byte : (j : Job) (r : Registers) (m : List ℕ) (i : ℕ) → r.fencepage ≡ 0 → Apart i 1 (head_at j) head_size → get_or (marked j r m) i 0 ≡ get_or m i 0
unfolding marked page_written head_written bytes_of
pageless-byte j r m i z h = rw (eq-eqb r.fencepage 0 z) (written_byte (head_at j) (bytes_of head_size (next_head j.head)) m i h)

pub length-kept : (e : Event) (m : List ℕ) → 0 ≤ 0 → length (marked_by e m) ≡ length m
length-kept (settling j v rs s) m h = marked-length j s.regs m
length-kept ring_refusal m h = refl
length-kept resetting m h = refl

pub any-event : (es : List Event) → Every (λ e. 0 ≤ 0) es
unfolding Every
any-event [] = omega arith
any-event (e ∷ es) = (omega arith, any-event es)

-- ---- memory after some events, by memory before them

pub record WrittenBy (w : World) (es : List Event) (w' : World) : Type 0 where
  -- each settling's head and page, written in turn, and nothing else
  pub memory : w'.mem ≡ through marked_by es w.mem
  -- so its length is kept,
  pub long : length w'.mem ≡ length w.mem
  -- a byte outside every head and every page is what it was,
  pub byte-kept : (i : ℕ) → Every (Outside i) es → get_or w'.mem i 0 ≡ get_or w.mem i 0
  -- and all of it is, where nothing was settled
  pub untouched : Every Silent es → w'.mem ≡ w.mem
