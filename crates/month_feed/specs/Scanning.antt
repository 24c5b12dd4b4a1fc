-- The records of a submission, one at each turn of a loop. Assumes nothing.
use Rattle.std.specs.Prelude.{◌≡◌, Bool, true, false, not, ◌&&◌, List}
use Rattle.std.proofs.Math.Path.{sym, ap}
use Rattle.std.proofs.Common.{◌∙◌, rules}
use Prim.Native.Nat.{ℕ, ◌+◌, ◌≤◌, ◌<◌, max}
use native.Mathlib.Omega.{arith}
use borrow.Author.Tests.{lt-ltb, le-ltb, ltb-true, ltb-false, le-leb, lt-leb, eq-eqb, ne_eqb, not-true, not-false}
use Rattle.rules.specs.Numbers.{backs, clips, writes}
use Rattle.rules.specs.declared.Record.{Record}
use Rattle.rows.specs.Rows.{row_at, table_from, from_first, from-none, from_zero}
use Rattle.kept_resources.specs.Views.{record_of, records_of}
use Rattle.rules.specs.Month.{sum, greatest, every, length_in, listed_kind, small}
use Rattle.std.specs.Prelude.{Ok, Err}
use Rattle.call_errors.specs.declared.CallError.TheVariants.{TooMuch}
use Rattle.month_feed.specs.Views.{within}

abbrev pub left : ℕ → ℕ → List ℕ → List Record
left i n l = table_from record_of 5 i n l

-- ---- one record

module _ (c : Record) where
  pub kind-low : c.kind < backs → false ≡ listed_kind c
  kind-low h = rw (lt-leb _ _ h)

  pub kind-high : backs ≤ c.kind → clips < c.kind → false ≡ listed_kind c
  kind-high g h = rw (le-leb _ _ g, lt-leb _ _ h)

  pub kind-good : backs ≤ c.kind → c.kind ≤ clips → true ≡ listed_kind c
  kind-good g h = rw (le-leb _ _ g, le-leb _ _ h)

  module _ (kind : ℕ) where
    pub of-kind : c.kind ≡ kind → c.length ≡ length_in kind c
    of-kind h = rw (eq-eqb _ _ h)

    pub of_other : (c.kind ≡ kind → ⊥) → 0 ≡ length_in kind c
    of_other h = rw (ne_eqb _ _ h)

pub ruleset judging_record = (kind-low, kind-high, kind-good, of-kind, of_other, rules)

-- ---- kinds

module _ (n : ℕ) (l : List ℕ) where
  pub kinds-start : every listed_kind (records_of n l) ≡ every listed_kind (left 0 n l)
  kinds-start = ap (every listed_kind) (sym (from_zero record_of 5 n l))

  module _ (i : ℕ) (so_far : every listed_kind (records_of n l) ≡ every listed_kind (left i n l)) where
    module _ (h : i < n) (c : Record) (row : c ≡ record_of (row_at 5 l i)) (t : Bool) (e : t ≡ listed_kind c) where
      here : every listed_kind (left i n l) ≡ t && every listed_kind (left (i + 1) n l)
      unfolding every
      here =
          ap (every listed_kind) (from_first record_of 5 i n l h)
          ∙ ap (λ b. b && every listed_kind (left (i + 1) n l)) (sym (e ∙ ap listed_kind row))

      pub kinds-not : not t ≡ true → false ≡ every listed_kind (records_of n l)
      kinds-not q = sym (so_far ∙ here ∙ rw (not-true t q))

      pub kinds-next : not t ≡ false → every listed_kind (records_of n l) ≡ every listed_kind (left (i + 1) n l)
      kinds-next q = so_far ∙ here ∙ rw (not-false t q)

    pub kinds-end : n ≤ i → true ≡ every listed_kind (records_of n l)
    unfolding every
    kinds-end h = sym (so_far ∙ rw (from-none record_of 5 i n l h))

pub ruleset scanning_kinds = (kinds-start, kinds-not, kinds-next, kinds-end, rules)

-- ---- bytes

module _ (kind n : ℕ) (l : List ℕ) where
  abbrev whole : ℕ
  whole = sum (length_in kind) (records_of n l)

  abbrev rest : ℕ → ℕ
  rest i = sum (length_in kind) (left i n l)

  pub bytes-start : whole ≡ 0 + rest 0
  bytes-start = let e : rest 0 ≡ whole = ap (sum (length_in kind)) (from_zero record_of 5 n l) in omega arith

  module _ (i total : ℕ) (so_far : whole ≡ total + rest i) where
    module _ (h : i < n) (c : Record) (row : c ≡ record_of (row_at 5 l i)) (m : ℕ) (e : m ≡ length_in kind c) where
      one : rest i ≡ m + rest (i + 1)
      unfolding sum
      one =
          ap (sum (length_in kind)) (from_first record_of 5 i n l h)
          ∙ ap (λ b. b + rest (i + 1)) (sym (e ∙ ap (length_in kind) row))

      module _ (t : Bool) (b : t ≡ not (small (total + m))) where
        pub bytes-over : t ≡ true → Err TooMuch ≡ within whole
        unfolding within
        bytes-over q =
            let o : rest i ≡ m + rest (i + 1) = one in
            let g : 18446744073709551616 ≤ total + m = ltb-false (total + m) 18446744073709551616 (not-true (small (total + m)) (sym b ∙ q)) in
            rw (le-ltb whole 18446744073709551616 (omega arith))

        pub bytes_fit : t ≡ false → total + m < 18446744073709551616
        bytes_fit q = ltb-true (total + m) 18446744073709551616 (not-false (small (total + m)) (sym b ∙ q))

      pub bytes_next : whole ≡ (total + m) + rest (i + 1)
      bytes_next = let o : rest i ≡ m + rest (i + 1) = one in omega arith

    pub bytes-end : n ≤ i → total < 18446744073709551616 → Ok total ≡ within whole
    unfolding within sum
    bytes-end h w =
        let z : rest i ≡ 0 = rw (from-none record_of 5 i n l h) in
        let e : whole ≡ total = omega arith in
        rw (e, lt-ltb total 18446744073709551616 w)

pub ruleset scanning_bytes = (bytes-start, bytes-over, bytes_fit, bytes_next, bytes-end, rules)

-- ---- the largest write

module _ (n : ℕ) (l : List ℕ) where
  abbrev top_whole : ℕ
  top_whole = greatest (length_in writes) (records_of n l)

  abbrev top_rest : ℕ → ℕ
  top_rest i = greatest (length_in writes) (left i n l)

  pub top_start : top_whole ≡ max 0 (top_rest 0)
  top_start = let e : top_rest 0 ≡ top_whole = ap (greatest (length_in writes)) (from_zero record_of 5 n l) in omega arith

  module _ (i top : ℕ) (so_far : top_whole ≡ max top (top_rest i)) where
    module _ (h : i < n) (c : Record) (row : c ≡ record_of (row_at 5 l i)) (m : ℕ) (e : m ≡ length_in writes c) where
      one-top : top_rest i ≡ max m (top_rest (i + 1))
      unfolding greatest
      one-top =
          ap (greatest (length_in writes)) (from_first record_of 5 i n l h)
          ∙ ap (λ b. max b (top_rest (i + 1))) (sym (e ∙ ap (length_in writes) row))

      pub top-next : (r : ℕ) → r ≡ max top m → top_whole ≡ max r (top_rest (i + 1))
      top-next r g = let o : top_rest i ≡ max m (top_rest (i + 1)) = one-top in omega arith

    pub top-end : n ≤ i → top ≡ top_whole
    unfolding greatest
    top-end h =
        let z : top_rest i ≡ 0 = rw (from-none record_of 5 i n l h) in
        omega arith

pub ruleset scanning_writes = (top_start, top-next, top-end, rules)
