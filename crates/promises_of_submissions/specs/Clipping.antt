-- Wish 7: "A scissor is clipped to the target over plain integers, negative corners included". The record that an accepted scissor makes lies
-- within the target that stands there, and its pixels are those that the target and the scissor's rectangle have in common. Assumes nothing.
use Rattle.std.specs.Prelude.{◌≡◌, Bool, ◌||◌, cond, ◌↔◌, ◌⊎◌, ℕ, suc, ◌+◌, ◌-◌, ◌^◌, ◌≤◌, ◌<◌, T, ltb, ℤ, pos, negsuc, nat_abs, ◌+ℤ◌, ◌≤ℤ◌, ◌<ℤ◌}
use Rattle.std.proofs.Math.Path.{refl}
use Rattle.std.proofs.Common.{ap, inl, inr, leb→le, le→leb, ltb→lt, lt→ltb}
use Rattle.std.proofs.Math.Bool.{true, false}
use native.Mathlib.Omega.{arith}
use borrow.Author.Tests.{lt-ltb, le-ltb}
use Rattle.std.proofs.Math.IntN.{sub_ℕ}
use Rattle.std.specs.Int.Signed.{lt_z}
use Rattle.rules.specs.Numbers.{clips}
use Rattle.rules.specs.Lists.Found.{found}
use Rattle.rules.specs.Layouts.{signed}
use Rattle.rules.specs.StatePackets.{negative, bad_sides, begins, common, rectangle}
use Rattle.rules.specs.Packets.{live_texture, recorded, Progress, Passed}
use Rattle.rules.specs.declared.Record.{Record}
use Rattle.rules.specs.declared.Shape.{Shape}
use Rattle.rules.specs.declared.SetScissor.{SetScissor}

-- ---- an i32

-- a word that is below 2^31 is that number, and another is 2^32 less
pub signed_is : (n : ℕ) → n < 2 ^ 32 → (n < 2 ^ 31 → signed n ≡ pos n) × (2 ^ 31 ≤ n → signed n +ℤ pos (2 ^ 32) ≡ pos n)
unfolding signed
signed_is n h = (
  λ low. rw (lt-ltb n (2 ^ 31) low),
  λ high. rw (le-ltb n (2 ^ 31) high, le-ltb (2 ^ 32) (suc (2 ^ 32 - 1 - n)) (omega arith)) (ap pos (omega arith)),
)

-- ---- what is said of a record of kind 4

-- a pixel of its rectangle: left, top, width and height stand in the places of handle, id, GPA and length
pub record InClip (r : Record) (i j : ℕ) : Type 0 where
  pub left : r.handle ≤ i
  pub right : i < r.handle + r.gpa
  pub top : r.id ≤ j
  pub bottom : j < r.id + r.length

-- a pixel that the texture's first mip and the scissor's rectangle have in common, over the integers
pub record InBoth (s : Shape) (c : SetScissor) (i j : ℕ) : Type 0 where
  pub width : i < s.width
  pub height : j < s.height
  pub left : c.x ≤ℤ pos i
  pub right : pos i <ℤ (c.x +ℤ c.width)
  pub top : c.y ≤ℤ pos j
  pub bottom : pos j <ℤ (c.y +ℤ c.height)

pub record ClippedTo (s : Shape) (c : SetScissor) (r : Record) : Type 0 where
  pub kind : r.kind ≡ clips
  -- it lies within the texture
  pub right : r.handle + r.gpa ≤ s.width
  pub bottom : r.id + r.length ≤ s.height
  -- and is exactly the common part
  pub pixels : (i j : ℕ) → InClip r i j ↔ InBoth s c i j
  -- "all 0 if empty"
  pub empty : ((i j : ℕ) → InBoth s c i j → ⊥) → r ≡ rectangle 0 0 0 0

-- ---- along one side

-- a place of a side that a part of the integers, so many from x on, also has
pub record Along (x : ℤ) (long : ℕ) (side i : ℕ) : Type 0 where
  pub inside : i < side
  pub from : x ≤ℤ pos i
  pub to : pos i <ℤ (x +ℤ pos long)

-- the same by the begin and the length that the rules give
pub record Cut (x : ℤ) (long : ℕ) (side i : ℕ) : Type 0 where
  pub from : begins x ≤ i
  pub to : i < begins x + common x long side

-- what lies before a difference of two naturals
before : (i a b : ℕ) → pos i <ℤ sub_ℕ a b → i < a - b
before i a b h = by_test (ltb a b) h.lt
  where
    by_test : (t : Bool) → T (lt_z (pos i) (cond t (negsuc (b - suc a)) (pos (a - b)))) → i < a - b
    by_test true k = absurd k
    by_test false k = ltb→lt i (a - b) k

is-before : (i a b : ℕ) → i < a - b → pos i <ℤ sub_ℕ a b
is-before i a b h = record { lt = rw (le-ltb a b (omega arith)) (lt→ltb i (a - b) h) }

-- a begin on the target, and one before it
pub cut-is : (x : ℤ) (long side i : ℕ) → Cut x long side i ↔ Along x long side i
unfolding common
cut-is (pos n) long side i = (
  λ c. record { inside = omega (arith, c.from, c.to); from = record { le = le→leb n i c.from }; to = record { lt = lt→ltb i (n + long) (omega (arith, c.from, c.to)) } },
  λ a.
      let first : n ≤ i = leb→le n i a.from.le in
      let last : i < n + long = ltb→lt i (n + long) a.to.lt in
      record { from = first; to = omega (arith, a.inside) },
)
cut-is (negsuc n) long side i = (
  λ c.
      let last : i < long - suc n = omega (arith, c.to) in
      record { inside = omega (arith, c.to); from = record { le = tt }; to = is-before i long (suc n) last },
  λ a.
      let last : i < long - suc n = before i long (suc n) a.to in
      record { from = omega arith; to = omega (arith, a.inside) },
)

-- where there is something in common, it ends within the side
pub cut_inside : (x : ℤ) (long side : ℕ) → (common x long side ≡ 0 → ⊥) → begins x + common x long side ≤ side
unfolding common
cut_inside (pos n) long side some = omega arith
cut_inside (negsuc n) long side some = omega arith

-- ---- the rectangle

not_negative : (z : ℤ) → negative z ≡ false → z ≡ pos (nat_abs z)
not_negative (pos n) e = refl
not_negative (negsuc n) e = absurd (let z : ◌≡◌ {A = ℕ} 0 1 = cc in omega arith)

pub neither : (a b : Bool) → a || b ≡ false → (a ≡ false) × (b ≡ false)
neither true b e = absurd (let z : ◌≡◌ {A = ℕ} 0 1 = cc in omega arith)
neither false b e = (refl, e)

pub either : (a b : Bool) → a || b ≡ true → (a ≡ true) ⊎ (b ≡ true)
either true b e = inl refl
either false b e = inr e

module _ (s : Shape) (c : SetScissor) (good : bad_sides c ≡ false) where
  abbrev pub wide : ℕ
  wide = common c.x (nat_abs c.width) s.width

  abbrev pub high : ℕ
  high = common c.y (nat_abs c.height) s.height

  abbrev pub CutBoth : ℕ → ℕ → Type 0
  CutBoth i j = Cut c.x (nat_abs c.width) s.width i × Cut c.y (nat_abs c.height) s.height j

  pub width_is : c.width ≡ pos (nat_abs c.width)
  unfolding bad_sides
  width_is = not_negative c.width (neither (negative c.width) (negative c.height) good).0

  pub height-is : c.height ≡ pos (nat_abs c.height)
  unfolding bad_sides
  height-is = not_negative c.height (neither (negative c.width) (negative c.height) good).1

-- ---- the packet

-- a scissor that is accepted: its target is a live texture, and its record, one more than before, is clipped to it
pub record Scissored (h : Progress) (c : SetScissor) (o : Passed) : Type 0 where
  pub texture : Shape
  pub its-target : live_texture h.target h.holdings ≡ found texture
  pub clip : Record
  pub is-clipped : ClippedTo texture c clip
  pub held : o.held ≡ record { holdings = recorded clip h.holdings; target = h.target; tokens = h.tokens }
