-- Rows scanned for a key, eight a turn: any width, any reading of a row, any key of what is read. Assumes nothing.
use Rattle.std.specs.Prelude.{◌≡◌, List, ℕ, ◌+◌, ◌-◌, ◌≤◌, ◌<◌, ◌%◌, get_or}
use Rattle.std.proofs.Common.{ap, ◌∙◌, ⊎_elim, arith, rules}
use Rattle.words.specs.Over.{below_or_not}
use Rattle.rules.specs.Lists.{index_of}
use Rattle.rows.specs.Rows.{row_at, table, table_from, from_first, from-none, from_zero}
use Rattle.rows.specs.Keys.{index-here, index-later, index-nil}

-- where the rows left are eights, and some are left, eight are
pub eight-left : (i n : ℕ) → (i ≤ n) × ((n - i) % 8 ≡ 0) → (i ≡ n → ⊥) → i + 8 ≤ n
eight-left i n eights h = ⊎_elim (λ r. omega arith) (λ r. absurd (h (omega arith))) (below_or_not i n)

-- a row's key: what one of its words is read as
abbrev pub key_in : ℕ → (ℕ → ℕ) → List ℕ → ℕ
key_in word reading r = reading (get_or r word 0)

module _ {A : Type 0} (f : List ℕ → A) (key : A → ℕ) (k w : ℕ) (l : List ℕ) where
  -- the place of the key among the rows from row i on, up to row n
  abbrev place_from : ℕ → ℕ → ℕ
  place_from n i = index_of key k (table_from f w i n l)

  -- which of m rows from row i on has the key first, or m: then its place, in any table that has them, is that many further on
  pub record Among (i m r : ℕ) : Type 0 where
    pub within : r ≤ m
    pub here : (n : ℕ) → i + m ≤ n → r < m → index_of key k (table_from f w i n l) ≡ r
    pub later : (n : ℕ) → i + m ≤ n → m ≤ r → index_of key k (table_from f w i n l) ≡ m + index_of key k (table_from f w (i + m) n l)

  -- ---- one row

  module _ (i : ℕ) where
    pub one-here : key (f (row_at w l i)) ≡ k → Among i 1 0
    one-here q =
        record {
          within = omega arith;
          here = λ n h g. rw (from_first f w i n l (omega arith)) (index-here key k (f (row_at w l i)) _ q);
          later = λ n h g. absurd (omega arith);
        }

    pub one_later : (key (f (row_at w l i)) ≡ k → ⊥) → Among i 1 1
    one_later q =
        record {
          within = omega arith;
          here = λ n h g. absurd (omega arith);
          later = λ n h g. rw (from_first f w i n l (omega arith)) (index-later key k (f (row_at w l i)) _ q ∙ omega arith);
        }

  -- ---- two, four, eight: twice as many, by their halves

  module _ (i m r : ℕ) (a : Among i m r) where
    front : r < m → Among i (m + m) r
    front h =
        record {
          within = omega arith;
          here = λ n p q. a.here n (omega arith) h;
          later = λ n p q. absurd (omega arith);
        }

    back : m ≤ r → (s : ℕ) → Among (i + m) m s → Among i (m + m) (m + s)
    back h s b =
        record {
          within = omega (arith, b.within);
          here = λ n p q. omega (arith, a.later n (omega arith) h, b.here n (omega arith) (omega arith));
          later = λ n p q.
              let e : i + m + m ≡ i + (m + m) = omega arith in
              let same : place_from n (i + m + m) ≡ place_from n (i + (m + m)) = ap (place_from n) e in
              omega (arith, a.later n (omega arith) h, b.later n (omega arith) (omega arith));
        }

  module _ (i r : ℕ) where
    pub two-front : Among i 1 r → r < 1 → Among i 2 r
    two-front a = front i 1 r a

    pub four-front : Among i 2 r → r < 2 → Among i 4 r
    four-front a = front i 2 r a

    pub eight-front : Among i 4 r → r < 4 → Among i 8 r
    eight-front a = front i 4 r a

    pub two_back : (s : ℕ) → Among i 1 r → 1 ≤ r → Among (i + 1) 1 s → Among i 2 (1 + s)
    two_back s a h b = back i 1 r a h s b

    pub four-back : (s : ℕ) → Among i 2 r → 2 ≤ r → Among (i + 2) 2 s → Among i 4 (2 + s)
    four-back s a h b = back i 2 r a h s b

    pub eight-back : (s : ℕ) → Among i 4 r → 4 ≤ r → Among (i + 4) 4 s → Among i 8 (4 + s)
    eight-back s a h b = back i 4 r a h s b

  -- ---- the scan: t is what the whole of it gives

  module _ (n i t : ℕ) (so_far : t ≡ i + index_of key k (table_from f w i n l)) where
    pub scan-end : i ≡ n → n ≡ t
    scan-end h = let e : place_from n i ≡ 0 = rw (from-none f w i n l (omega arith)) (index-nil key k) in omega arith

    module _ (m r : ℕ) (a : Among i m r) (room : i + m ≤ n) where
      found : r < m → i + r ≡ t
      found h = omega (arith, a.here n room h)

      past : m ≤ r → t ≡ i + m + place_from n (i + m)
      past h = omega (arith, a.later n room h)

    module _ (eights : (i ≤ n) × ((n - i) % 8 ≡ 0)) (h : i ≡ n → ⊥) (r : ℕ) (a : Among i 8 r) where
      pub eight-here : r < 8 → i + r ≡ t
      eight-here g = found 8 r a (eight-left i n eights h) g

      pub eight-later : 8 ≤ r → t ≡ i + 8 + index_of key k (table_from f w (i + 8) n l)
      eight-later g = past 8 r a (eight-left i n eights h) g

    module _ (h : i < n % 8) (r : ℕ) (a : Among i 1 r) where
      pub few-here : r < 1 → i + r ≡ t
      few-here g = found 1 r a (omega arith) g

      pub few-later : 1 ≤ r → t ≡ i + 1 + index_of key k (table_from f w (i + 1) n l)
      few-later g = past 1 r a (omega arith) g

  pub scan-start : (n : ℕ) → index_of key k (table f w n l) ≡ 0 + index_of key k (table_from f w 0 n l)
  scan-start n = rw (from_zero f) (omega arith)

  -- what is left after the few in front
  pub scan-rest : (n i few : ℕ) → index_of key k (table f w n l) ≡ i + index_of key k (table_from f w i n l) → i ≤ few → few ≤ i
      → (r : ℕ) → r ≡ few + index_of key k (table_from f w few n l) → r ≡ index_of key k (table f w n l)
  scan-rest n i few so_far g h r e =
      let s : few ≡ i = omega arith in
      let same : place_from n few ≡ place_from n i = ap (place_from n) s in
      omega arith

pub ruleset joining = (two-front, two_back, four-front, four-back, eight-front, eight-back, rules)

pub ruleset scanning_by_eight = (scan-end, eight-here, eight-later, few-here, few-later, scan-start, scan-rest, rules)
