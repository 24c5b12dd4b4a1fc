-- A good shape, number by number, as a file's rules ask for it. Assumes nothing.
use Rattle.std.specs.Prelude.{◌≡◌, Bool, true, ◌&&◌, ltb, leb}
use Rattle.rules.specs.Numbers.{most_layers, longest_side}
use Rattle.rules.specs.Shapes.{block_bytes, full_chain, good_shape}
use Rattle.rules.specs.declared.Shape.{Shape}
use Rattle.rules.specs.Loaded.{between}
use Rattle.rule_laws.specs.Fine.{both_left, both_right}

pub record GoodSides (s : Shape) : Type 0 where
  pub format : ltb 0 (block_bytes s.format) ≡ true
  pub width : between 1 longest_side s.width ≡ true
  pub height : between 1 longest_side s.height ≡ true
  pub mips : between 1 (full_chain s.width s.height) s.mips ≡ true
  pub layers : between 1 most_layers s.layers ≡ true

-- tests two by two, and in a row
module _ (f a b c d e g h i : Bool) where
  in_a_row : f ≡ true → a && b ≡ true → c && d ≡ true → e && g ≡ true → h && i ≡ true → f && (a && (b && (c && (d && (e && (g && (h && i))))))) ≡ true
  in_a_row p q r s t = rw (p, both_left a b q, both_right a b q, both_left c d r, both_right c d r, both_left e g s, both_right e g s, both_left h i t, both_right h i t)

  two-by-two : f && (a && (b && (c && (d && (e && (g && (h && i))))))) ≡ true
      → (f ≡ true) × ((a && b ≡ true) × ((c && d ≡ true) × ((e && g ≡ true) × (h && i ≡ true))))
  two-by-two k =
      let ka = both_right f _ k in
      let kb = both_right a _ ka in
      let kc = both_right b _ kb in
      let kd = both_right c _ kc in
      let ke = both_right d _ kd in
      let kg = both_right e _ ke in
      let kh = both_right g _ kg in
      (both_left f _ k, (rw (both_left a _ ka, both_left b _ kb), (rw (both_left c _ kc, both_left d _ kd), (rw (both_left e _ ke, both_left g _ kg), kh))))

module _ (s : Shape) where
  pub sides-good : GoodSides s → good_shape s ≡ true
  unfolding good_shape
  sides-good g =
      in_a_row (ltb 0 (block_bytes s.format)) (leb 1 s.width) (leb s.width longest_side) (leb 1 s.height) (leb s.height longest_side)
      (leb 1 s.mips) (leb s.mips (full_chain s.width s.height)) (leb 1 s.layers) (leb s.layers most_layers)
      g.format g.width g.height g.mips g.layers

  pub good-sides : good_shape s ≡ true → GoodSides s
  unfolding good_shape
  good-sides e =
      let k = two-by-two (ltb 0 (block_bytes s.format)) (leb 1 s.width) (leb s.width longest_side) (leb 1 s.height) (leb s.height longest_side)
      (leb 1 s.mips) (leb s.mips (full_chain s.width s.height)) (leb 1 s.layers) (leb s.layers most_layers) e in
      record { format = k.0; width = k.1.0; height = k.1.1.0; mips = k.1.1.1.0; layers = k.1.1.1.1 }
