-- The tests of a good shape, each as the code makes it, and what a good shape keeps.
-- Assumes nothing.
use Rattle.std.specs.Prelude.{◌≡◌, refl, Bool, true, false, not, ◌&&◌, ℕ, ◌≤◌, ◌<◌, ltb, leb}
use Rattle.std.proofs.Common.{sym, ◌∙◌, arith, rules}
use Rattle.std.proofs.Math.Bool.{and_assoc, and-false}
use borrow.Author.Tests.{ltb-true, leb-true, not-true, not-false, lt-ltb, le-leb, lt-leb}
use Rattle.rules.specs.Numbers.{longest_side, most_layers}
use Rattle.rules.specs.Shapes.{block_bytes, larger, full_chain, tight, good_shape, good_backed}
use Rattle.rules.specs.declared.Shape.{Shape}
use Rattle.texture_shapes.specs.Formats.{minimum}
use Rattle.texture_shapes.specs.Bounds.{Bounded}
use Rattle.texture_shapes.specs.Chain.{halvings-le}

-- "1 to 16,384"
abbrev pub good_side : ℕ → Bool
good_side n = leb 1 n && leb n longest_side

pub no-side : (n : ℕ) → n < 1 → false ≡ good_side n
no-side n h = rw (lt-leb 1 n h)

pub some-side : (n : ℕ) → 1 ≤ n → leb n longest_side ≡ good_side n
some-side n h = rw (le-leb 1 n h)

pub ruleset sides = (no-side, some-side)

-- ---- a good shape

both_true : (a b : Bool) → a && b ≡ true → (a ≡ true) × (b ≡ true)
both_true true b h = (refl, h)
both_true false true h = (h, refl)
both_true false false h = (h, h)

in-range : (x lo hi : ℕ) (rest : Bool) → leb lo x && (leb x hi && rest) ≡ true → (lo ≤ x) × ((x ≤ hi) × (rest ≡ true))
in-range x lo hi rest h =
    let low = both_true (leb lo x) (leb x hi && rest) h in
    let high = both_true (leb x hi) rest low.1 in
    (leb-true lo x low.0, (leb-true x hi high.0, high.1))

-- what the tests of a good shape still ask, from the layers, the mips, the height and the width on
abbrev layered : Shape → Bool
layered s = leb 1 s.layers && leb s.layers most_layers

abbrev chained : Shape → Bool
chained s = leb 1 s.mips && (leb s.mips (full_chain s.width s.height) && layered s)

abbrev high : Shape → Bool
high s = leb 1 s.height && (leb s.height longest_side && chained s)

abbrev wide : Shape → Bool
wide s = leb 1 s.width && (leb s.width longest_side && high s)

module _ (s : Shape) where
  tests : good_shape s ≡ (ltb 0 (block_bytes s.format) && (good_side s.width && (good_side s.height && chained s)))
  unfolding good_shape
  tests = simp and_assoc

  pub unknown-format : (u : ℕ) → u ≡ block_bytes s.format → u ≡ 0 → false ≡ good_shape s
  unknown-format u e z = rw (tests, ← e, z)

  pub bad-width : (b : Bool) → b ≡ good_side s.width → not b ≡ true → false ≡ good_shape s
  bad-width b e n = rw (tests, ← e, not-true b n, and-false)

  pub bad-height : (b : Bool) → b ≡ good_side s.height → not b ≡ true → false ≡ good_shape s
  bad-height b e n = simp (tests, ← e, not-true b n, and-false)

  pub no-mips : s.mips < 1 → false ≡ good_shape s
  no-mips h = simp (tests, lt-leb 1 s.mips h, and-false)

  pub chain-too-long : (b : Bool) → b ≡ leb s.mips (full_chain s.width s.height) → not b ≡ true → false ≡ good_shape s
  chain-too-long b e n = simp (tests, ← e, not-true b n, and-false)

  pub no-layers : s.layers < 1 → false ≡ good_shape s
  no-layers h = simp (tests, lt-leb 1 s.layers h, and-false)

  pub all-but-layers : (u : ℕ) (b c d : Bool) → u ≡ block_bytes s.format → (u ≡ 0 → ⊥) → b ≡ good_side s.width → not b ≡ false → c ≡ good_side s.height → not c ≡ false
      → 1 ≤ s.mips → d ≡ leb s.mips (full_chain s.width s.height) → not d ≡ false → 1 ≤ s.layers → leb s.layers most_layers ≡ good_shape s
  all-but-layers u b c d e n f g h i j k l m =
      let known : ltb 0 (block_bytes s.format) ≡ true = lt-ltb 0 (block_bytes s.format) (rw (← e) (omega (arith, n))) in
      let wide : good_side s.width ≡ true = sym f ∙ not-false b g in
      let high : good_side s.height ≡ true = sym h ∙ not-false c i in
      let long : leb s.mips (full_chain s.width s.height) ≡ true = sym k ∙ not-false d l in
      rw (tests, known, wide, high, le-leb 1 s.mips j, long, le-leb 1 s.layers m)

  pub keeps-limits : good_shape s ≡ true → Bounded s
  unfolding good_shape full_chain
  keeps-limits g =
      let f = both_true (ltb 0 (block_bytes s.format)) (wide s) g in
      let w = in-range s.width 1 longest_side (high s) f.1 in
      let h = in-range s.height 1 longest_side (chained s) w.1.1 in
      let m = in-range s.mips 1 (full_chain s.width s.height) (layered s) h.1.1 in
      let l = both_true (leb 1 s.layers) (leb s.layers most_layers) m.1.1 in
      record {
        format = ltb-true 0 (block_bytes s.format) f.0;
        some-width = w.0;
        width = w.1.0;
        some-height = h.0;
        height = h.1.0;
        some-mips = m.0;
        mips = omega (arith, halvings-le 14 (larger s.width s.height));
        some-layers = leb-true 1 s.layers l.0;
        layers = leb-true s.layers most_layers l.1;
      }

pub ruleset judging = (unknown-format, bad-width, bad-height, no-mips, chain-too-long, no-layers, all-but-layers, rules)

-- ---- a good backed shape

module _ (s : Shape) (p : ℕ) where
  pub backed-asks-shape : (b : Bool) → b ≡ good_shape s → not b ≡ true → false ≡ good_backed s p
  unfolding good_backed
  backed-asks-shape b e n = rw (← e, not-true b n)

  pub backed-asks-pitch : (b : Bool) (m : ℕ) → b ≡ good_shape s → not b ≡ false → m ≡ minimum s.format s.width → leb m p ≡ good_backed s p
  unfolding good_backed tight
  backed-asks-pitch b m e n f = rw (← e, not-false b n, f)

  pub backed-shape : good_backed s p ≡ true → good_shape s ≡ true
  unfolding good_backed
  backed-shape g = (both_true (good_shape s) (leb (tight s 0) p) g).0

  pub backed-pitch : good_backed s p ≡ true → tight s 0 ≤ p
  unfolding good_backed
  backed-pitch g = leb-true (tight s 0) p (both_true (good_shape s) (leb (tight s 0) p) g).1

pub ruleset backing = (backed-asks-shape, backed-asks-pitch, rules)
