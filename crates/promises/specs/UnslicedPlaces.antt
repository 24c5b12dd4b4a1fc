-- Wish 9 by the unsliced rules: of a submission that an opening started, the first broken rule is an entry's, with its index, or a packet's,
-- with its offset in the stream. Assumes nothing.
use Rattle.std.specs.Prelude.{◌≡◌}
use mathlib.Core.List.{List}
use Prim.Native.Nat.{ℕ, ◌+◌, ◌≤◌, ◌<◌}
use native.Mathlib.Omega.{arith}
use Rattle.std.proofs.Math.ListN.{length}
use Rattle.rules.specs.Judging.Finding.{fine, broken}
use Rattle.rules.specs.declared.Fault.{Fault}

pub fine-not-broken : {f : Fault} → fine ≡ broken f → ⊥
fine-not-broken e = let z : ◌≡◌ {A = ℕ} 0 1 = cc in omega arith

module _ (f : Fault) where
  -- the first broken packet, of bytes that stand at an offset, has its place among them
  abbrev pub Among : ℕ → List ℕ → Type 0
  Among at b = (at ≤ f.place) × (f.place < at + length b)
