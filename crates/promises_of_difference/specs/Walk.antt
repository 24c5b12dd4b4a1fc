-- A walk by the cursor meets each packet once, in order: after i steps it is at the packets with index i. Assumes nothing.
use Rattle.std.specs.Prelude.{◌≡◌, List}
use Rattle.std.proofs.Math.Path.{refl, ap}
use Rattle.std.proofs.Common.{sym, ◌∙◌}
use Prim.Native.Nat.{ℕ, zero, suc}
use Rattle.rules.specs.Layouts.{stream_header_size}
use Rattle.rules.specs.Lists.{nth}
use Rattle.rules.specs.Difference.{packets, class_of, offsets_of, next_from, class_at, offsets_at, own, packet_at, behind, pair_at, next_at, onward}
use Rattle.rules.specs.declared.Cursor.{Cursor}
use Rattle.diff_walk.specs.Walk.{packets_from, nth_here, nth_on}
use Rattle.diff_walk.specs.Own.{own-packets}

-- a place after some steps
unfoldable steps : List ℕ → ℕ → ℕ → ℕ
steps s at zero = at
steps s at (suc i) = behind s (steps s at i)

first_step : (s : List ℕ) (at i : ℕ) → steps s (behind s at) i ≡ behind s (steps s at i)
unfolding steps
first_step s at zero = refl
first_step s at (suc i) = ap (behind s) (first_step s at i)

steps-to : (s : List ℕ) (at i : ℕ) → packet_at s (steps s at i) ≡ nth (packets_from s at) i
unfolding steps
steps-to s at zero = sym (nth_here s at)
steps-to s at (suc i) = ap (packet_at s) (sym (first_step s at i)) ∙ (steps-to s (behind s at) i ∙ sym (nth_on s at i))

-- the cursor after some steps
unfoldable pub cursor_after : List ℕ → List ℕ → ℕ → Cursor
cursor_after b c zero = record { first = stream_header_size; second = stream_header_size }
cursor_after b c (suc i) = onward b c (cursor_after b c i)

module _ (b c : List ℕ) where
  first-place : (i : ℕ) → (cursor_after b c i).first ≡ steps (own b) stream_header_size i
  unfolding cursor_after steps
  first-place zero = refl
  first-place (suc i) = ap (behind (own b)) (first-place i)

  second-place : (i : ℕ) → (cursor_after b c i).second ≡ steps (own c) stream_header_size i
  unfolding cursor_after steps
  second-place zero = refl
  second-place (suc i) = ap (behind (own c)) (second-place i)

  pub first-packet : (i : ℕ) → packet_at (own b) (cursor_after b c i).first ≡ nth (packets b) i
  first-packet i = ap (packet_at (own b)) (first-place i) ∙ (steps-to (own b) stream_header_size i ∙ ap (λ l. nth l i) (own-packets b))

  pub second-packet : (i : ℕ) → packet_at (own c) (cursor_after b c i).second ≡ nth (packets c) i
  second-packet i = ap (packet_at (own c)) (second-place i) ∙ (steps-to (own c) stream_header_size i ∙ ap (λ l. nth l i) (own-packets c))

  -- it answers what is answered by index
  pub class-after : (i : ℕ) → (pair_at b c (cursor_after b c i)).class ≡ class_at b c i
  class-after i = ap (λ f. class_of f (packet_at (own c) (cursor_after b c i).second)) (first-packet i) ∙ ap (λ g. class_of (nth (packets b) i) g) (second-packet i)

  pub next-after : (i from : ℕ) → next_at b c (cursor_after b c i) from ≡ next_from from (offsets_at b c i)
  next-after i from =
      ap (λ f. next_from from (offsets_of f (packet_at (own c) (cursor_after b c i).second))) (first-packet i)
      ∙ ap (λ g. next_from from (offsets_of (nth (packets b) i) g)) (second-packet i)
