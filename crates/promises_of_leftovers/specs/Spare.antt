-- Wish 12: "Unknown packets' payloads, appended fields, strides' spare bytes and bytes past the stream size may differ": none of them is named; and any byte that no listed field
-- covers may be anything. Assumes nothing.
use Rattle.std.specs.Prelude.{◌≡◌, ◌⊎◌, length}
use mathlib.Core.List.{List, [], ◌∷◌}
use Rattle.std.proofs.Common.{inl, inr}
use Prim.Native.Nat.{ℕ, ◌+◌, ◌≤◌, ◌<◌}
use native.Mathlib.Omega.{arith}
use Rattle.rules.specs.Lists.Found.{none}
use Rattle.rules.specs.Fields.{Field}
use Rattle.rules.specs.Layouts.{ring_header_layout, descriptor_layout, table_header_layout, entry_layout, stream_header_layout, packet_header_layout}
use Rattle.rules.specs.Stream.{known, least_size}
use Rattle.rules.specs.Listed.{placed, Named, packet_layout}
use Rattle.rules.specs.declared.Stream.{Stream}
use Rattle.promises_of_packets.specs.Held.{Every}
use Rattle.promises_of_submissions.specs.LocalWrites.{AgreeAt}
use Rattle.promises_of_submissions.specs.Reads.{AgreeOn, Ends, named-inside, unknown-names-nothing}
use Rattle.promises_of_leftovers.specs.Unit.{bytes-agree}

-- ---- by bytes

-- a byte that one of some fields covers
unfoldable pub Covered : List Named → ℕ → Type 0
Covered [] i = ⊥
Covered (f ∷ fs) i = ((f.at ≤ i) × (i < f.at + f.width)) ⊎ Covered fs i

-- to agree on some fields is to hold the same bytes where they cover
module _ (m m' : List ℕ) (len : length m ≡ length m') where
  pub agree-by-bytes : (fs : List Named) → ((i : ℕ) → Covered fs i → AgreeAt i m m') → AgreeOn m m' fs
  unfolding Every Covered
  agree-by-bytes [] h = omega arith
  agree-by-bytes (f ∷ fs) h = (bytes-agree m m' len f.at f.width (λ i b. h (f.at + i) (inl (omega arith, omega arith))), agree-by-bytes fs (λ i k. h i (inr k)))

-- ---- what is not named

-- of an unknown packet nothing but opcode and size; of a known one nothing past its table size, so no appended field
pub payloads-are-not-named : (op : ℕ) → (known op ≡ none → packet_layout op ≡ []) × Ends (least_size op) (packet_layout op)
payloads-are-not-named op = (unknown-names-nothing op, named-inside op)

-- of a slot nothing past its first 56 bytes, of an entry nothing past its first 24, whatever the stride; of the headers nothing past 32, 20, 12 and 8
pub record SpareBytes : Type 0 where
  pub ring_header : Ends 32 ring_header_layout
  pub slot : Ends 56 descriptor_layout
  pub table_header : Ends 20 table_header_layout
  pub entry : Ends 24 entry_layout
  pub stream_header : Ends 12 stream_header_layout
  pub packet-header : Ends 8 packet_header_layout

-- ---- of a stream nothing past its size

-- a field between two places of memory
abbrev pub Between : ℕ → ℕ → Named → Type 0
Between from to f = (from ≤ f.at) × (f.at + f.width ≤ to)

pub placed-between : (n base from to : ℕ) (fs : List Field) → Ends n fs → from ≤ base → base + n ≤ to → Every (Between from to) (placed base fs)
unfolding Every placed
placed-between n base from to [] h a b = omega arith
placed-between n base from to (f ∷ fs) h a b = ((omega arith, omega (arith, h.0)), placed-between n base from to fs h.1 a b)

module _ (m : List ℕ) (s : Stream) where
  abbrev pub Within : ℕ → Named → Type 0
  Within at = Between (s.gpa + at) (s.gpa + s.size)

  pub within-less : (at at' : ℕ) → at ≤ at' → (fs : List Named) → Every (Within at') fs → Every (Within at) fs
  unfolding Every
  within-less at at' h [] k = k
  within-less at at' h (f ∷ fs) k = ((omega (arith, k.0.0), k.0.1), within-less at at' h fs k.1)
