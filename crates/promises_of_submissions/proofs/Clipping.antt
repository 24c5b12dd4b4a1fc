-- The theorems of specs/Clipping.antt, and what they rest on. Assumes nothing.
use Rattle.std.specs.Prelude.{◌≡◌, Bool, ◌||◌, List, ℕ, ◌≤◌, pos, nat_abs, ◌+ℤ◌, ◌<ℤ◌, Ok}
use Rattle.std.proofs.Math.Path.{refl}
use Rattle.std.proofs.Common.{sym, subst, ⊎_elim}
use Rattle.std.proofs.Math.Bool.{true, false}
use native.Mathlib.Omega.{arith}
use borrow.Author.Tests.{eqb-true, eqb-false}
use Rattle.std.proofs.Math.Dec.{eqb}
use Rattle.machine.specs.Machine.{pick}
use Rattle.rules.specs.StatePackets.{bad_sides, begins, rectangle, clip_of}
use Rattle.rules.specs.Packets.{Outcome, apply, target_after, Progress, passed, pass, tokens_after}
use Rattle.rules.specs.declared.Entry.{Entry}
use Rattle.rules.specs.declared.Shape.{Shape}
use Rattle.rules.specs.declared.SetScissor.{SetScissor}
use Rattle.rules.specs.declared.Packet.TheVariants.{Scissor}
use Rattle.promises_of_packets.specs.Effects.{scissor-or}
use Rattle.promises_of_submissions.specs.Clipping.{Along, ClippedTo, CutBoth, InBoth, Scissored, cut-is, cut_inside, either, height-is, high, neither, wide, width_is}

-- ---- the rectangle

module _ (s : Shape) (c : SetScissor) (good : bad_sides c ≡ false) where
  both-cut : (i j : ℕ) → (CutBoth s c good) i j → InBoth s c i j
  both-cut i j k =
      let a : Along c.x (nat_abs c.width) s.width i = (cut-is c.x (nat_abs c.width) s.width i).0 k.0 in
      let b : Along c.y (nat_abs c.height) s.height j = (cut-is c.y (nat_abs c.height) s.height j).0 k.1 in
      record {
        width = omega (arith, a.inside);
        height = omega (arith, b.inside);
        left = a.from;
        right = subst (λ z. pos i <ℤ (c.x +ℤ z)) (sym (width_is s c good)) a.to;
        top = b.from;
        bottom = subst (λ z. pos j <ℤ (c.y +ℤ z)) (sym (height-is s c good)) b.to;
      }

  cut-both : (i j : ℕ) → InBoth s c i j → (CutBoth s c good) i j
  cut-both i j p = (
    (cut-is c.x (nat_abs c.width) s.width i).1 (record { inside = p.width; from = p.left; to = subst (λ z. pos i <ℤ (c.x +ℤ z)) (width_is s c good) p.right }),
    (cut-is c.y (nat_abs c.height) s.height j).1 (record { inside = p.height; from = p.top; to = subst (λ z. pos j <ℤ (c.y +ℤ z)) (height-is s c good) p.bottom }),
  )

  -- nothing is in common where one side has nothing
  none-common : eqb (wide s c good) 0 || eqb (high s c good) 0 ≡ true → (i j : ℕ) → InBoth s c i j → ⊥
  none-common e i j p =
      let k : (CutBoth s c good) i j = cut-both i j p in
      ⊎_elim (λ z. omega (arith, eqb-true (wide s c good) 0 z, k.0.from, k.0.to)) (λ z. omega (arith, eqb-true (high s c good) 0 z, k.1.from, k.1.to))
      (either (eqb (wide s c good) 0) (eqb (high s c good) 0) e)

  -- what the rules record is clipped so
  pub clip-is-the-common-part : ClippedTo s c (clip_of s c)
  unfolding clip_of
  clip-is-the-common-part = by_test (eqb (wide s c good) 0 || eqb (high s c good) 0) refl
    where
      by_test : (b : Bool) → eqb (wide s c good) 0 || eqb (high s c good) 0 ≡ b → ClippedTo s c (pick b (rectangle 0 0 0 0) (rectangle (begins c.x) (begins c.y) (wide s c good) (high s c good)))
      by_test true e =
          record {
            kind = refl;
            right = omega arith;
            bottom = omega arith;
            pixels = λ i j. (λ p. absurd (omega (arith, p.left, p.right)), λ p. absurd (none-common e i j p));
            empty = λ _. refl;
          }
      by_test false e =
          let two = neither (eqb (wide s c good) 0) (eqb (high s c good) 0) e in
          let some : (wide s c good) ≡ 0 → ⊥ = eqb-false (wide s c good) 0 two.0 in
          let more : (high s c good) ≡ 0 → ⊥ = eqb-false (high s c good) 0 two.1 in
          record {
            kind = refl;
            right = cut_inside c.x (nat_abs c.width) s.width some;
            bottom = cut_inside c.y (nat_abs c.height) s.height more;
            pixels = λ i j. (
              λ p. both-cut i j (record { from = p.left; to = p.right }, record { from = p.top; to = p.bottom }),
              λ p.
                  let k : (CutBoth s c good) i j = cut-both i j p in
                  record { left = k.0.from; right = k.0.to; top = k.1.from; bottom = k.1.to },
            );
            empty = λ nothing.
                absurd (nothing (begins c.x) (begins c.y)
                (both-cut (begins c.x) (begins c.y) (record { from = omega arith; to = omega arith }, record { from = omega arith; to = omega arith })));
          }

-- ---- the packet

pub accepted-scissor-is-clipped : (es : List Entry) (h : Progress) (c : SetScissor) → (pass es h (Scissor c)).verdict ≡ Ok tt → Scissored h c (pass es h (Scissor c))
unfolding pass apply target_after tokens_after
accepted-scissor-is-clipped es h c =
    scissor-or (λ (o : Outcome). o.verdict ≡ Ok tt → Scissored h c (passed (Scissor c) h o)) h.holdings
    (λ r e. absurd (let z : ◌≡◌ {A = ℕ} 0 1 = cc in omega arith)) h.target c
    (λ s k e. record { texture = s; its-target = k.texture; clip = clip_of s c; is-clipped = clip-is-the-common-part s c k.sides; held = refl })
