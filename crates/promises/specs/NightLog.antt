-- The night log's examples marked [P], as one table: what the rules give, and what the log says. One statement holds of it all.
use Rattle.std.specs.Prelude.{Bool, true, false, ◌&&◌, List, [], ◌∷◌, ◌++◌, ℕ, zero, suc, eqb, None, Option, Some}
use Rattle.rules.specs.Numbers.{ring_magic, version, no_place}
use Rattle.rules.specs.Bytes.{bytes_of}
use Rattle.rules.specs.Judging.{number, at_place}
use Rattle.rules.specs.Judging.Finding.{fine}
use Rattle.rules.specs.Layouts.{ring_header}
use Rattle.rules.specs.Table.{entry_rules}
use Rattle.rules.specs.Ring.{pending, slot}
use Rattle.rules.specs.Shapes.{packed_size, index_of, start_of}
use Rattle.rules.specs.Packets.{at_first, on_texture_packet}
use Rattle.rules.specs.State.{World, made, with_regs, registers_of, no_error, nothing_owned}
use Rattle.rules.specs.Settle.{ended_by, next_head}
use Rattle.rules.specs.Registers.{status}
use Rattle.rules.specs.Steps.{step}
use Rattle.rules.specs.declared.Entry.{Entry}
use Rattle.rules.specs.declared.Shape.{Shape}
use Rattle.rules.specs.declared.RingHeader.{RingHeader}
use Rattle.rules.specs.declared.Registers.{Registers}

-- what the rules give, and what the log says
pub record Case : Type 0 where
  pub given : ℕ
  pub says : ℕ

infix 80 ◌⇒◌
abbrev ◌⇒◌ : ℕ → ℕ → Case
given ⇒ says = record { given = given; says = says }

-- ---- shapes

unfoldable pub shape : ℕ → ℕ → ℕ → ℕ → ℕ → Shape
shape format width height mips layers = record { format = format; width = width; height = height; mips = mips; layers = layers }

-- an entry that has room for any texture
unfoldable pub roomy : Entry
roomy = record { id = 5; flags = 0; gpa = 0; size = 1099511627776 }

-- the error that creating such a texture gives; 0 for none
unfoldable pub creating : Shape → ℕ → ℕ
creating s pitch =
    number (at_place no_place (on_texture_packet (roomy ∷ []) (at_first nothing_owned).holdings (record { handle = 1; shape = s; pitch = pitch; backing = 5; offset = 0 })).verdict)

unfoldable pub start : Option ℕ → ℕ
start (Some n) = n
start None = 0

-- ---- fences

unfoldable pub completed_nine : Registers
completed_nine = registers_of 0 0 true 0 9 false false 0 no_error true

unfoldable pub after_signal : ℕ → Registers
after_signal fence = ended_by (record { ring = 0; head = 0; signal = fence; silent = false }) fine completed_nine

-- ---- rings

unfoldable pub zeros : ℕ → List ℕ
zeros zero = []
zeros (suc n) = 0 ∷ zeros n

-- a ring of eight slots of 64 bytes, at address 0
unfoldable pub ring : ℕ → ℕ → List ℕ
ring head tail =
    bytes_of 4 ring_magic ++ (bytes_of 4 version ++ (bytes_of 4 576 ++ (bytes_of 4 8 ++ (bytes_of 4 64 ++ (bytes_of 4 0
    ++ (bytes_of 4 head ++ (bytes_of 4 tail ++ zeros 544)))))))

unfoldable pub header : ℕ → ℕ → RingHeader
header head tail = ring_header (ring head tail) 0

-- an enabled device whose doorbell was rung over such a ring
unfoldable pub rung : ℕ → ℕ → World
rung head tail =
    record {
      state = with_regs (registers_of 0 576 true 0 0 false false 0 no_error true) (made 576);
      mem = ring head tail;
    }

-- ---- entries

unfoldable pub entry_error : ℕ → ℕ → ℕ
entry_error gpa size = number (at_place 0 (entry_rules 4096 [] (record { id = 1; flags = 0; gpa = gpa; size = size })))

-- ---- the table

unfoldable pub night_log : List Case
night_log =
    -- 1. Format 1, 5x3, 3 mips, 1 layer, pitch 20: 72. Pitch 32: 108.
    packed_size (shape 1 5 3 3 1) 20 ⇒ 72
    ∷ packed_size (shape 1 5 3 3 1) 32 ⇒ 108
    -- 2. Same, pitch 20, 2 layers: 144; mip 1 of layer 1 is index 4 at 132.
    ∷ packed_size (shape 1 5 3 3 2) 20 ⇒ 144
    ∷ index_of (shape 1 5 3 3 2) 1 1 ⇒ 4
    ∷ start (start_of (shape 1 5 3 3 2) 20 4) ⇒ 132
    -- 3. Format 64, 5x5, 3 mips, pitch 16: 48. Pitch 15: 20.
    ∷ packed_size (shape 64 5 5 3 1) 16 ⇒ 48
    ∷ creating (shape 64 5 5 3 1) 15 ⇒ 20
    -- 4. 16384x1: 15 mips pass, 16 give 20. 1x1: 2 mips give 20.
    ∷ creating (shape 1 16384 1 15 1) 65536 ⇒ 0
    ∷ creating (shape 1 16384 1 16 1) 65536 ⇒ 20
    ∷ creating (shape 1 1 1 2 1) 4 ⇒ 20
    -- 5. Completed 9: signal 7 or 9 leaves 9, no IRQ; 10 gives 10 and the IRQ.
    ∷ (after_signal 7).completed ⇒ 9
    ∷ status (after_signal 7) ⇒ 0
    ∷ (after_signal 9).completed ⇒ 9
    ∷ status (after_signal 9) ⇒ 0
    ∷ (after_signal 10).completed ⇒ 10
    ∷ status (after_signal 10) ⇒ 1
    -- 6. Head 4294967295, tail 0, count 8: one pending, slot 7, next head 0.
    ∷ pending (header 4294967295 0) ⇒ 1
    ∷ slot (header 4294967295 0) ⇒ 7
    ∷ next_head 4294967295 ⇒ 0
    -- 7. Head 0, tail 9, count 8: 10.
    ∷ (step (rung 0 9)).state.regs.error.code ⇒ 10
    -- 8. Memory 4,096: gpa 0 size 4,096 passes; gpa 1 gives 14.
    ∷ entry_error 0 4096 ⇒ 0
    ∷ entry_error 1 4096 ⇒ 14
    ∷ []

unfoldable pub agree : List Case → Bool
agree [] = true
agree (c ∷ cs) = eqb c.given c.says && agree cs
