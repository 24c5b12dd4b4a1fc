-- The theorems of specs/Bytes.antt, and what they rest on. Assumes nothing.
use Rattle.std.specs.Prelude.{◌≡◌, ◌⊎◌, ℕ, ◌≤◌, length, get_or}
use Rattle.std.proofs.Math.Path.{refl}
use Rattle.std.proofs.Common.{ap, ◌∙◌, inl, inr}
use mathlib.Core.List.{List}
use Rattle.rules.specs.State.{World}
use Rattle.rules.specs.Settle.{marked}
use Rattle.settle.specs.Settling.{page_size}
use Rattle.settle.specs.Only.{Apart, head_at, only-head-and-page}
use Rattle.promises_of_units.specs.Called.{Call}
use Rattle.promises_of_units.specs.Events.{Event, Units, History}
use Rattle.promises_of_units.specs.Events.Event.{settling, ring_refusal, resetting}
use Rattle.promises_of_units.specs.Changes.{through}
use Rattle.promises_of_units.proofs.Changes.{units-through, calls-through}
use Rattle.promises_of_units.specs.Bytes.{Outside, Silent, WrittenBy, any-event, length-kept, marked_by, memory-changed, pageless-byte, silent-keeps, through-keeps}

-- ---- what each event keeps, any number of them keep

outside-keeps : (i : ℕ) (e : Event) (m : List ℕ) → Outside i e → get_or (marked_by e m) i 0 ≡ get_or m i 0
outside-keeps i (settling j v rs s) m h = by-page h.1
  where
    by-page : (s.regs.fencepage ≡ 0) ⊎ Apart i 1 s.regs.fencepage page_size → get_or (marked j s.regs m) i 0 ≡ get_or m i 0
    by-page (inl z) = pageless-byte j s.regs m i z h.0
    by-page (inr p) = only-head-and-page j s.regs m i h.0 p
outside-keeps i ring_refusal m h = refl
outside-keeps i resetting m h = refl

-- ---- memory after some events, by memory before them

by-events : (w : World) (es : List Event) (w' : World) → w'.mem ≡ through marked_by es w.mem → WrittenBy w es w'
by-events w es w' e =
    record {
      memory = e;
      long = ap length e ∙ through-keeps length (λ x. 0 ≤ 0) length-kept es w.mem (any-event es);
      byte-kept = λ i h. ap (λ m. get_or m i 0) e ∙ through-keeps (λ m. get_or m i 0) (Outside i) (outside-keeps i) es w.mem h;
      untouched = λ h. e ∙ through-keeps (λ m. m) Silent silent-keeps es w.mem h;
    }

-- of the units of a run
pub units-write : (w : World) (es : List Event) (w' : World) → Units w es w' → WrittenBy w es w'
units-write w es w' u = by-events w es w' (units-through memory-changed w es w' u)

-- and of any calls
pub calls-write : (w : World) (cs : List Call) (es : List Event) (w' : World) → History w cs es w' → WrittenBy w es w'
calls-write w cs es w' h = by-events w es w' (calls-through memory-changed w cs es w' h)
