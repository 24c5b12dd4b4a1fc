-- How the packets at two places compare, and what asking it needs. Assumes nothing.
use Rattle.std.specs.Prelude.{◌≡◌, refl, List, [], ◌∷◌, ℕ, ◌+◌, ◌≤◌, length, take, drop, None, Option, Some}
use Rattle.std.proofs.Common.{sym, ◌∙◌, arith, rules, length-drop, length-take-le}
use borrow.Author.Tests.{eq-eqb, ne_eqb}
use Rattle.rules.specs.Layouts.{word}
use Rattle.rules.specs.Difference.{differing, same_opcode, class_both, offsets_both, class_of, offsets_of, next_from, packet_at, size_at, pair_in}
use Rattle.rules.specs.declared.Class.{Class}
use Rattle.rules.specs.declared.Class.TheVariants.{Equal, SameOpcode, OtherOpcode, OnlyFirst, OnlySecond, Neither}
use Rattle.diff_bytes.specs.Differing.{first_of, next_start}
use Rattle.diff_walk.specs.Walk.{no-packet, some-packet}

-- ---- compare, next_of_parts

-- the whole list, by its first member
module _ (x y : List ℕ) (o : Option ℕ) (is : o ≡ next_from 0 (differing x y)) where
  first-is : o ≡ first_of (differing x y)
  first-is = is ∙ next_start x y 0

  by-some : (l : List ℕ) (i : ℕ) → o ≡ first_of l → o ≡ Some i → same_opcode l ≡ SameOpcode
  by-some [] i e f = absurd (let z : ◌≡◌ {A = ℕ} 0 1 = cc in omega arith)
  by-some (j ∷ l) i e f = refl

  by-none : (l : List ℕ) → o ≡ first_of l → o ≡ None → same_opcode l ≡ Equal
  by-none [] e f = refl
  by-none (j ∷ l) e f = absurd (let z : ◌≡◌ {A = ℕ} 0 1 = cc in omega arith)

  pub some-differ : (i : ℕ) → o ≡ Some i → same_opcode (differing x y) ≡ SameOpcode
  some-differ i f = by-some (differing x y) i first-is f

  pub none_differ : o ≡ None → same_opcode (differing x y) ≡ Equal
  none_differ f = by-none (differing x y) first-is f

module _ (x y : List ℕ) (a b : ℕ) (p : a ≡ word x 0) (q : b ≡ word y 0) where
  pub other-class : (a ≡ b → ⊥) → OtherOpcode ≡ class_both x y
  unfolding class_both
  other-class n = rw (← p, ← q, ne_eqb a b n)

  pub other-next : (from : ℕ) → (a ≡ b → ⊥) → None ≡ next_from from (offsets_both x y)
  unfolding offsets_both next_from
  other-next from n = rw (← p, ← q, ne_eqb a b n)

  module _ (e : a ≡ b) where
    pub same_class : (o : Option ℕ) → o ≡ next_from 0 (differing x y) → (i : ℕ) → o ≡ Some i → SameOpcode ≡ class_both x y
    unfolding class_both
    same_class o is i f = rw (← p, ← q, eq-eqb a b e, some-differ x y o is i f)

    pub equal-class : (o : Option ℕ) → o ≡ next_from 0 (differing x y) → o ≡ None → Equal ≡ class_both x y
    unfolding class_both
    equal-class o is f = rw (← p, ← q, eq-eqb a b e, none_differ x y o is f)

    pub same_next : (from : ℕ) (o : Option ℕ) → o ≡ next_from from (differing x y) → o ≡ next_from from (offsets_both x y)
    unfolding offsets_both
    same_next from o is = rw (← p, ← q, eq-eqb a b e) is

pub ruleset comparing = (other-class, same_class, equal-class, other-next, same_next, rules)

-- ---- class_of_sizes, next_in

module _ (s : List ℕ) (at size : ℕ) (is : size ≡ size_at s at) (n : size ≡ 0 → ⊥) where
  pub part-inside : at + size ≤ length s
  part-inside = (some-packet s at size is n).inside

  pub part-head : (a : List ℕ) → a ≡ take size (drop at s) → 4 ≤ length a
  part-head a f =
      let p = some-packet s at size is n in
      let k : size ≤ length (drop at s) = rw length-drop (omega (arith, p.inside)) in
      rw (f, length-take-le size (drop at s) k) (omega (arith, p.some))

module _ (s : List ℕ) (at size : ℕ) (is : size ≡ size_at s at) (t : List ℕ) (to long : ℕ) (also : long ≡ size_at t to) where
  pub in-neither : size ≡ 0 → long ≡ 0 → Neither ≡ class_of (packet_at s at) (packet_at t to)
  in-neither a b = rw (no-packet s at (sym is ∙ a), no-packet t to (sym also ∙ b))

  pub in-second : size ≡ 0 → (long ≡ 0 → ⊥) → OnlySecond ≡ class_of (packet_at s at) (packet_at t to)
  in-second a b = rw (no-packet s at (sym is ∙ a), (some-packet t to long also b).is)

  pub next-no-first : size ≡ 0 → (from : ℕ) → None ≡ next_from from (offsets_of (packet_at s at) (packet_at t to))
  unfolding next_from
  next-no-first a from = rw (no-packet s at (sym is ∙ a))

  module _ (n : size ≡ 0 → ⊥) where
    pub in-first : long ≡ 0 → OnlyFirst ≡ class_of (packet_at s at) (packet_at t to)
    in-first b = rw ((some-packet s at size is n).is, no-packet t to (sym also ∙ b))

    pub next-no-second : long ≡ 0 → (from : ℕ) → None ≡ next_from from (offsets_of (packet_at s at) (packet_at t to))
    unfolding next_from
    next-no-second b from = rw ((some-packet s at size is n).is, no-packet t to (sym also ∙ b))

    module _ (m : long ≡ 0 → ⊥) (a b : List ℕ) (part : a ≡ take size (drop at s)) (part' : b ≡ take long (drop to t)) where
      pub in_both : (r : Class) → r ≡ class_both a b → r ≡ class_of (packet_at s at) (packet_at t to)
      in_both r g = rw ((some-packet s at size is n).is, (some-packet t to long also m).is, ← part, ← part') g

      pub next-in-both : (from : ℕ) (r : Option ℕ) → r ≡ next_from from (offsets_both a b) → r ≡ next_from from (offsets_of (packet_at s at) (packet_at t to))
      next-in-both from r g = rw ((some-packet s at size is n).is, (some-packet t to long also m).is, ← part, ← part') g

pub ruleset classing = (part-inside, part-head, in-neither, in-second, in-first, in_both, rules)

pub ruleset nexting = (part-inside, part-head, next-no-first, next-no-second, next-in-both, rules)

-- ---- pair_in

pub paired : (s t : List ℕ) (at to size long : ℕ) (c : Class) → size ≡ size_at s at → long ≡ size_at t to → c ≡ class_of (packet_at s at) (packet_at t to)
    → record { class = c; first = at; firstsize = size; second = to; secondsize = long } ≡ pair_in s at t to
paired s t at to size long c p q r = rw (p, q, r)

pub ruleset pairing = (paired, rules)
