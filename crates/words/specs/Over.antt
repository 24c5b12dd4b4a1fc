-- Parts of a list, and what is written over one: laws of `over`, for members of any type.
-- Assumes nothing.
use Rattle.std.specs.Prelude.{◌≡◌, refl, ◌⊎◌, Bool, true, false, ltb}
use Rattle.std.proofs.Math.Path.{sym, ap}
use Rattle.std.proofs.Common.{◌∙◌, inl, inr, add-zero, add_assoc, ltb-true, ltb-false, length-append, drop-drop, drop_at, get_or-drop, get_or-append-add}
use mathlib.Core.List.{List, ◌++◌, append_assoc}
use Prim.Native.Nat.{ℕ, ◌+◌, ◌-◌, ◌≤◌, ◌<◌}
use native.Mathlib.Omega.{arith}
use Rattle.std.proofs.Math.ListN.{length, get_or, take, drop, length-drop, take-append-drop, get_or-append}
use Rattle.std.proofs.lemmas.List.Edits.{sets, sets-eq}
use Rattle.std.proofs.Math.Seq.{length-take-le, take_at, drop-append-add, take-add, get_or-take}
use Rattle.std.proofs.lemmas.List.{take-append-le, drop-append-le}
use Rattle.rules.specs.Lists.{over}

-- one of two numbers is the lower one
pub below_or_not : (a b : ℕ) → (a < b) ⊎ (b ≤ a)
below_or_not a b = by_test (ltb a b) refl
  where
    by_test : (t : Bool) → ltb a b ≡ t → (a < b) ⊎ (b ≤ a)
    by_test true e = inl (ltb-true a b e)
    by_test false e = inr (ltb-false a b e)

module _ {A : Type 0} where
  -- stores one after the other write a part over
  pub sets_over : (i : ℕ) (vs l : List A) → i + length vs ≤ length l → sets l i vs ≡ over i vs l
  unfolding over
  sets_over i vs l h = rw (sets-eq vs l i h) (simp append_assoc)

  pub length_over : (at : ℕ) (b m : List A) → at + length b ≤ length m → length (over at b m) ≡ length m
  unfolding over
  length_over at b m h =
      let t : length (take at m) ≡ at = length-take-le at m (omega arith) in
      simp (length-append, t, length-drop) (omega arith)

  -- two writes side by side are one
  pub over-over : (at k : ℕ) (b c m : List A) → at + length b + length c ≤ length m → k ≡ at + length b → over k c (over at b m) ≡ over at (b ++ c) m
  unfolding over
  over-over at k b c m h e =
      let t : length (take at m) ≡ at = length-take-le at m (omega arith) in
      let front : length (take at m ++ b) ≡ k = simp (length-append, t) (omega arith) in
      let whole : take at m ++ (b ++ drop (at + length b) m) ≡ (take at m ++ b) ++ drop (at + length b) m = sym (append_assoc (take at m) b _) in
      let back : drop (k + length c) ((take at m ++ b) ++ drop (at + length b) m) ≡ drop (at + length (b ++ c)) m =
      ap (λ n. drop (n + length c) ((take at m ++ b) ++ drop (at + length b) m)) (sym front)
      ∙ (drop-append-add (take at m ++ b) (drop (at + length b) m) (length c) ∙ (drop-drop (length c) (at + length b) m ∙ simp (length-append, add_assoc))) in
      rw (whole, take_at (take at m ++ b) (drop (at + length b) m) k front, back) (simp append_assoc)

  -- what a callee that was lent the part from at to e says it wrote k into it, said of the whole
  pub part-over-at : (at e k : ℕ) (m last b : List A) → at + k + length b ≤ e → e ≤ length m → last ≡ over k b (take (e - at) (drop at m))
      → take at m ++ (last ++ drop (e - at) (drop at m)) ≡ over (at + k) b m
  unfolding over
  part-over-at at e k m last b f h l =
      let p : List A = take (e - at) (drop at m) in
      let q : List A = drop (e - at) (drop at m) in
      let len : length p ≡ e - at = length-take-le (e - at) (drop at m) (simp length-drop (omega arith)) in
      let whole : p ++ q ≡ drop at m = take-append-drop (e - at) (drop at m) in
      let front : take k p ≡ take k (drop at m) = sym (take-append-le k p q (omega arith)) ∙ ap (λ x. take k x) whole in
      let back : drop (k + length b) p ++ q ≡ drop (at + k + length b) m =
      sym (drop-append-le (k + length b) p q (omega arith))
      ∙ (ap (λ x. drop (k + length b) x) whole ∙ (drop-drop (k + length b) at m ∙ simp add_assoc)) in
      let start : take (at + k) m ≡ take at m ++ take k (drop at m) = take-add at k m in
      rw (l, front, start) (simp append_assoc (rw back))

  -- the same of a part that was written whole
  pub part-over : (at e : ℕ) (m last b : List A) → e ≡ at + length b → e ≤ length m → last ≡ over 0 b (take (e - at) (drop at m))
      → take at m ++ (last ++ drop (e - at) (drop at m)) ≡ over at b m
  part-over at e m last b k h l = part-over-at at e 0 m last b (omega arith) h l ∙ rw add-zero

  -- and of the rest from `at` on, of which the front was written
  pub tail-over : (at : ℕ) (m last b : List A) → at + length b ≤ length m → last ≡ over 0 b (take (length m - at) (drop at m))
      → take at m ++ (last ++ drop (length m - at) (drop at m)) ≡ over at b m
  tail-over at m last b h l = part-over-at at (length m) 0 m last b (omega arith) (omega arith) l ∙ rw add-zero

  -- a part that ends within the front of a list is the front's
  pub part-front : (w k : ℕ) (p q : List A) → k + w ≤ length p → take w (drop k (p ++ q)) ≡ take w (drop k p)
  part-front w k p q h =
      let a : k ≤ length p = omega arith in
      let b : w ≤ length (drop k p) = simp length-drop (omega arith) in
      rw (drop-append-le, take-append-le)

  -- what is read within a part is read of the whole
  pub part-read : (w k n at : ℕ) (m : List A) → k + w ≤ n → at + n ≤ length m → take w (drop k (take n (drop at m))) ≡ take w (drop (at + k) m)
  part-read w k n at m h r =
      let len : length (take n (drop at m)) ≡ n = length-take-le n (drop at m) (simp length-drop (omega arith)) in
      let front : take w (drop k (take n (drop at m) ++ drop n (drop at m))) ≡ take w (drop k (take n (drop at m))) = part-front w k (take n (drop at m)) (drop n (drop at m)) (omega arith) in
      sym front ∙ (ap (λ (x : List A). take w (drop k x)) (take-append-drop n (drop at m)) ∙ rw drop-drop)

  module _ (at : ℕ) (b m : List A) (room : at + length b ≤ length m) where
    head : length (take at m) ≡ at
    head = length-take-le at m (omega arith)

    -- a write leaves a part before it as it was
    pub part-before : (w k : ℕ) → k + w ≤ at → take w (drop k (over at b m)) ≡ take w (drop k m)
    unfolding over
    part-before w k h =
        let here : k + w ≤ length (take at m) = rw head h in
        part-front w k (take at m) _ here
        ∙ sym (ap (λ (x : List A). take w (drop k x)) (sym (take-append-drop at m)) ∙ part-front w k (take at m) (drop at m) here)

    -- and a part after it
    pub drop-after : (k : ℕ) → at + length b ≤ k → drop k (over at b m) ≡ drop k m
    unfolding over
    drop-after k h =
        let n : ℕ = k - (at + length b) in
        let two : length (take at m ++ b) ≡ at + length b = simp (length-append, head) in
        let e : k ≡ length (take at m ++ b) + n = omega arith in
        let f : at + length b + n ≡ k = omega arith in
        let whole : take at m ++ (b ++ drop (at + length b) m) ≡ (take at m ++ b) ++ drop (at + length b) m = sym (append_assoc (take at m) b _) in
        ap (λ x. drop k x) whole
        ∙ (ap (λ j. drop j ((take at m ++ b) ++ drop (at + length b) m)) e
        ∙ (drop-append-add (take at m ++ b) (drop (at + length b) m) n ∙ (drop-drop n (at + length b) m ∙ ap (λ j. drop j m) f)))

    -- and the part at it is what was written
    pub part_at : (w : ℕ) → length b ≡ w → take w (drop at (over at b m)) ≡ b
    unfolding over
    part_at w e = rw (drop_at (take at m) _ at head) (take_at b _ w e)

    pub get_or-before : (j : ℕ) (d : A) → j < at → get_or (over at b m) j d ≡ get_or m j d
    unfolding over
    get_or-before j d h = get_or-append (take at m) _ d j (rw head h) ∙ get_or-take at m j d h

    pub get_or-within : (j : ℕ) (d : A) → j < length b → get_or (over at b m) (at + j) d ≡ get_or b j d
    unfolding over
    get_or-within j d h =
        ap (λ n. get_or (take at m ++ (b ++ drop (at + length b) m)) (n + j) d) (sym head)
        ∙ (get_or-append-add (take at m) _ j d ∙ get_or-append b _ d j h)

    pub get_d_after : (j : ℕ) (d : A) → at + length b ≤ j → get_or (over at b m) j d ≡ get_or m j d
    get_d_after j d h =
        let e : j ≡ j + 0 = omega arith in
        ap (λ n. get_or (over at b m) n d) e
        ∙ (sym (get_or-drop j (over at b m) 0 d) ∙ (ap (λ x. get_or x 0 d) (drop-after j h) ∙ (get_or-drop j m 0 d ∙ ap (λ n. get_or m n d) (sym e))))
