-- Rows of a flat list, seen as a list of members: any width, any reading of a row, members of any type.
-- Assumes nothing.
use Rattle.std.specs.Prelude.{◌≡◌, ◌⊎◌, get_or, drop, set}
use Rattle.std.proofs.Math.Path.{refl, sym, ap}
use Rattle.std.proofs.Common.{◌∙◌, inl, inr, ⊎_elim, add-suc, mul-le-mul_left, mul-suc, mul-le-mul, add-one, rules, Fits, length-drop, take-append-drop, length-take-le, get_or-take, get_or-drop, ext_get_or, take_all, take-suc}
use mathlib.Core.List.{List, [], ◌∷◌, ◌++◌}
use Prim.Native.Nat.{ℕ, zero, suc, ◌+◌, ◌*◌, ◌-◌, ◌≤◌, ◌<◌, ◌%◌, ◌^◌}
use Rattle.std.proofs.Math.Nat.{add-zero, zero-add, suc-add, sub-zero}
use native.Mathlib.Omega.{arith}
use Rattle.std.specs.Int.{w64}
use Rattle.std.proofs.Math.ListN.{length, take}
use Rattle.std.proofs.lemmas.List.Edits.{sets}
use Rattle.rules.specs.Lists.{over, pushed, removed}
use Rattle.words.specs.Over.{below_or_not, sets_over, length_over, over-over, part-before, part_at, drop-after, get_or-before, get_or-within, get_d_after, part-front, part-read}

module _ {A : Type 0} where
  -- f at i, i + 1, .., n of them
  unfoldable pub tab : (ℕ → A) → ℕ → ℕ → List A
  tab f i zero = []
  tab f i (suc n) = f i ∷ tab f (suc i) n

  pub length-tab : (f : ℕ → A) (i n : ℕ) → length (tab f i n) ≡ n
  unfolding tab
  length-tab f i zero = refl
  length-tab f i (suc n) = ap suc (length-tab f (suc i) n)

  pub get_or-tab : (f : ℕ → A) (i n j : ℕ) (d : A) → j < n → get_or (tab f i n) j d ≡ f (i + j)
  unfolding tab
  get_or-tab f i zero j d h = absurd (omega arith)
  get_or-tab f i (suc n) zero d h = rw add-zero
  get_or-tab f i (suc n) (suc j) d h = rw (add-suc, ← suc-add) (get_or-tab f (suc i) n j d (omega arith))

  -- what two functions give is the same where they agree on the indices
  pub tab-ext : (f g : ℕ → A) (i n : ℕ) → ((k : ℕ) → i ≤ k → k < i + n → f k ≡ g k) → tab f i n ≡ tab g i n
  unfolding tab
  tab-ext f g i zero h = refl
  tab-ext f g i (suc n) h = rw (h i (omega arith) (omega arith), tab-ext f g (suc i) n (λ k p q. h k (omega arith) (omega arith)))

  -- one more at the end
  pub tab-snoc : (f : ℕ → A) (i n : ℕ) → tab f i (suc n) ≡ tab f i n ++ (f (i + n) ∷ [])
  unfolding tab
  tab-snoc f i zero = rw add-zero
  tab-snoc f i (suc n) = rw (add-suc, ← suc-add) (ap {B = List A} (λ r. f i ∷ r) (tab-snoc f (suc i) n))

  -- the first, where there is one
  pub tab-first : (f : ℕ → A) (i n : ℕ) → i < n → tab f i (n - i) ≡ f i ∷ tab f (i + 1) (n - (i + 1))
  unfolding tab
  tab-first f i n h =
      let e : n - i ≡ suc (n - (i + 1)) = omega arith in
      rw (e, add-one)

  pub tab-none : (f : ℕ → A) (i n : ℕ) → n ≤ i → tab f i (n - i) ≡ []
  unfolding tab
  tab-none f i n h =
      let e : n - i ≡ 0 = omega arith in
      rw e

  pub tab-take : (f : ℕ → A) (i m n : ℕ) → m ≤ n → take m (tab f i n) ≡ tab f i m
  unfolding tab
  tab-take f i zero n h = refl
  tab-take f i (suc m) zero h = absurd (omega arith)
  tab-take f i (suc m) (suc n) h = ap {B = List A} (λ r. f i ∷ r) (tab-take f (suc i) m n (omega arith))

  pub tab-drop : (f : ℕ → A) (i m n : ℕ) → m ≤ n → drop m (tab f i n) ≡ tab f (i + m) (n - m)
  unfolding tab
  tab-drop f i zero n h = rw (add-zero, sub-zero)
  tab-drop f i (suc m) zero h = absurd (omega arith)
  tab-drop f i (suc m) (suc n) h =
      let e : suc n - suc m ≡ n - m = omega arith in
      rw (add-suc, ← suc-add, e) (tab-drop f (suc i) m n (omega arith))

-- row i of a flat list of rows of w
unfoldable pub row_at : ℕ → List ℕ → ℕ → List ℕ
row_at w l i = take w (drop (w * i) l)

-- a row's key, where a row has one
abbrev pub first_word : List ℕ → ℕ
first_word r = get_or r 0 0 % 2 ^ 32

-- row i + 1 begins where row i ends
row-end : (w i j : ℕ) → i < j → w * i + w ≤ w * j
row-end w i j h = omega (arith, mul-le-mul_left w h, mul-suc w i)

pub length-row_at : (w : ℕ) (l : List ℕ) (i : ℕ) → w * i + w ≤ length l → length (row_at w l i) ≡ w
unfolding row_at
length-row_at w l i h = length-take-le w (drop (w * i) l) (simp length-drop (omega arith))

-- a word of a row
pub row_field : (w : ℕ) (l : List ℕ) (i k : ℕ) → k < w → get_or (row_at w l i) k 0 ≡ get_or l (w * i + k) 0
unfolding row_at
row_field w l i k h = rw (get_or-take, get_or-drop)

-- a row written over: it is what was written, and the others are what they were
module _ (w i : ℕ) (vs l : List ℕ) (wide : length vs ≡ w) (room : w * i + w ≤ length l) where
  fits : w * i + length vs ≤ length l
  fits = rw wide room

  pub row_same : row_at w (over (w * i) vs l) i ≡ vs
  unfolding row_at
  row_same = part_at (w * i) vs l fits w wide

  pub row_before : (j : ℕ) → j < i → row_at w (over (w * i) vs l) j ≡ row_at w l j
  unfolding row_at
  row_before j h = part-before (w * i) vs l fits w (w * j) (row-end w j i h)

  pub row-after : (j : ℕ) → i < j → row_at w (over (w * i) vs l) j ≡ row_at w l j
  unfolding row_at
  row-after j h = ap (λ x. take w x) (drop-after (w * i) vs l fits (w * j) (rw wide (row-end w i j h)))

module _ {E : Type 0} (f : List ℕ → E) (w : ℕ) where
  -- the first n rows, each read by f
  unfoldable pub table : ℕ → List ℕ → List E
  table n l = tab (λ i. f (row_at w l i)) 0 n

  -- those from row i on, up to row n
  unfoldable pub table_from : ℕ → ℕ → List ℕ → List E
  table_from i n l = tab (λ i. f (row_at w l i)) i (n - i)

  pub from_first : (i n : ℕ) (l : List ℕ) → i < n → table_from i n l ≡ f (row_at w l i) ∷ table_from (i + 1) n l
  unfolding table_from
  from_first i n l h = tab-first (λ i. f (row_at w l i)) i n h

  pub from-none : (i n : ℕ) (l : List ℕ) → n ≤ i → table_from i n l ≡ []
  unfolding table_from
  from-none i n l h = tab-none (λ i. f (row_at w l i)) i n h

  pub from_zero : (n : ℕ) (l : List ℕ) → table_from 0 n l ≡ table n l
  unfolding table_from table
  from_zero n l = rw sub-zero

  pub length-table : (n : ℕ) (l : List ℕ) → length (table n l) ≡ n
  unfolding table
  length-table n l = length-tab (λ i. f (row_at w l i)) 0 n

  pub get_or-table : (n : ℕ) (l : List ℕ) (i : ℕ) (d : E) → i < n → get_or (table n l) i d ≡ f (row_at w l i)
  unfolding table
  get_or-table n l i d h = get_or-tab (λ i. f (row_at w l i)) 0 n i d h ∙ rw zero-add

  pub table-zero : (l : List ℕ) → table 0 l ≡ []
  unfolding table tab
  table-zero l = refl

  -- fewer rows are the front of more
  pub table-take : (m n : ℕ) (l : List ℕ) → m ≤ n → take m (table n l) ≡ table m l
  unfolding table
  table-take m n l h = tab-take (λ i. f (row_at w l i)) 0 m n h

  -- a row written behind them leaves n rows as they were
  pub table-behind : (n i : ℕ) (vs l : List ℕ) → length vs ≡ w → w * i + w ≤ length l → n ≤ i → table n (over (w * i) vs l) ≡ table n l
  unfolding table
  table-behind n i vs l wide room h = tab-ext _ _ 0 n (λ k p q. ap f (row_before w i vs l wide room k (omega arith)))

  -- one row more
  pub table-suc : (n : ℕ) (l : List ℕ) → table (n + 1) l ≡ pushed (table n l) (f (row_at w l n))
  unfolding table
  table-suc n l = rw (add-one, tab-snoc, zero-add)

  -- the last row
  table-last : (n : ℕ) (l : List ℕ) → 0 < n → drop (n - 1) (table n l) ≡ f (row_at w l (n - 1)) ∷ []
  unfolding table tab
  table-last n l h =
      let e : n - (n - 1) ≡ 1 = omega arith in
      tab-drop (λ i. f (row_at w l i)) 0 (n - 1) n (omega arith) ∙ rw (e, zero-add)

  -- a row written after n rows is one member more
  pub table-push : (n : ℕ) (vs l : List ℕ) → length vs ≡ w → w * n + w ≤ length l → table (n + 1) (over (w * n) vs l) ≡ pushed (table n l) (f vs)
  table-push n vs l wide room = rw (table-suc, row_same w n vs l wide room, table-behind n n vs l wide room (omega arith))

  -- the same of stores one after the other
  pub table-push-sets : (n : ℕ) (vs l : List ℕ) → length vs ≡ w → w * n + w ≤ length l → table (n + 1) (sets l (w * n) vs) ≡ pushed (table n l) (f vs)
  table-push-sets n vs l wide room = rw (sets_over (w * n) vs l (rw wide room)) (table-push n vs l wide room)

  -- a row written among n rows is that member replaced
  pub table-replace : (n i : ℕ) (vs l : List ℕ) → length vs ≡ w → w * i + w ≤ length l → i < n
      → table n (over (w * i) vs l) ≡ over i (f vs ∷ []) (table n l)
  table-replace n i vs l wide room h =
      let len : length (table n l) ≡ n = length-table n l in
      let fit : i + 1 ≤ length (table n l) = omega arith in
      ext_get_or (f vs) _ _ (length-table n _ ∙ sym (length_over i (f vs ∷ []) (table n l) fit ∙ len))
      (λ j p. at_row fit j (rw length-table at p) (below_or_not j i) (below_or_not i j))
    where
      at_row : i + 1 ≤ length (table n l) → (j : ℕ) → j < n → (j < i) ⊎ (i ≤ j) → (i < j) ⊎ (j ≤ i)
          → get_or (table n (over (w * i) vs l)) j (f vs) ≡ get_or (over i (f vs ∷ []) (table n l)) j (f vs)
      at_row fit j p (inl q) _ =
          rw (get_or-table n _ j (f vs) p, row_before w i vs l wide room j q, get_or-before i (f vs ∷ []) (table n l) fit j (f vs) q, get_or-table n l j (f vs) p)
      at_row fit j p (inr _) (inl q) =
          rw (get_or-table n _ j (f vs) p, row-after w i vs l wide room j q, get_d_after i (f vs ∷ []) (table n l) fit j (f vs) (omega arith), get_or-table n l j (f vs) p)
      at_row fit j p (inr q) (inr r) =
          let e : j ≡ i + 0 = omega arith in
          let s : j ≡ i = omega arith in
          (get_or-table n _ j (f vs) p ∙ rw (s, row_same w i vs l wide room))
          ∙ sym (ap (λ k. get_or (over i (f vs ∷ []) (table n l)) k (f vs)) e ∙ get_or-within i (f vs ∷ []) (table n l) fit 0 (f vs) (omega arith))

  -- the last row moved over row i, and one less: that member is removed
  pub table-remove : (n i : ℕ) (l : List ℕ) → w * n ≤ length l → i < n → table (n - 1) (over (w * i) (row_at w l (n - 1)) l) ≡ removed i (table n l)
  unfolding removed
  table-remove n i l room h =
      let vs : List ℕ = row_at w l (n - 1) in
      let last : w * (n - 1) + w ≤ w * n = row-end w (n - 1) n (omega arith) in
      let here : w * i + w ≤ w * n = row-end w i n h in
      let wide : length vs ≡ w = length-row_at w l (n - 1) (omega arith) in
      sym (table-take (n - 1) n (over (w * i) vs l) (omega arith))
      ∙ rw (table-replace n i vs l wide (omega arith) h, length-table, table-last n l (omega arith))

-- ---- move_row

module _ (w from to : ℕ) (l : List ℕ) where
  -- after k words of the row `from` were copied over the row `to`
  abbrev pub copied : ℕ → List ℕ
  copied k = over (w * to) (take k (row_at w l from)) l

  pub copy_start : l ≡ copied 0
  unfolding over
  copy_start = rw add-zero (sym (take-append-drop (w * to) l))

  module _ (pre : (w * from + w ≤ length l) × (w * to + w ≤ length l)) (k : ℕ) (m : List ℕ) (part : m ≡ copied k) where
    front : k ≤ w → length (take k (row_at w l from)) ≡ k
    front h = length-take-le k (row_at w l from) (rw (length-row_at w l from pre.0) h)

    fit : k ≤ w → w * to + length (take k (row_at w l from)) ≤ length l
    fit h = rw (front h) (omega arith)

    pub copy-length : k ≤ w → length m ≡ length l
    copy-length h = rw (part, length_over (w * to) (take k (row_at w l from)) l (fit h))

    -- both words of a turn are within the list
    pub copy-reads : k < w → w * from + k < length m
    copy-reads h = let n : length m ≡ length l = copy-length (omega arith) in omega arith

    pub copy_writes : k < w → w * to + k < length m
    copy_writes h = let n : length m ≡ length l = copy-length (omega arith) in omega arith

    -- the next word is still what it was, also where a row is copied over itself
    source : k < w → get_or m (w * from + k) 0 ≡ get_or (row_at w l from) k 0
    source h =
        let e : length (take k (row_at w l from)) ≡ k = front (omega arith) in
        rw (part, row_field w l from k h)
        (⊎_elim
        (λ q. get_or-before (w * to) (take k (row_at w l from)) l (fit (omega arith)) (w * from + k) 0 (omega (arith, row-end w from to q)))
        (λ q. get_d_after (w * to) (take k (row_at w l from)) l (fit (omega arith)) (w * from + k) 0 (omega (arith, mul-le-mul_left w q)))
        (below_or_not from to))

    pub copy-next : k < w → set m (w * to + k) (get_or m (w * from + k) 0) ≡ copied (k + 1)
    copy-next h =
        let e : length (take k (row_at w l from)) ≡ k = front (omega arith) in
        let n : length m ≡ length l = copy-length (omega arith) in
        let x : ℕ = get_or (row_at w l from) k 0 in
        let long : k < length (row_at w l from) = rw (length-row_at w l from pre.0) h in
        rw (source h, add-one, take-suc (row_at w l from) k 0 long)
        (sets_over (w * to + k) (x ∷ []) m (omega arith)
        ∙ rw part (over-over (w * to) (w * to + k) (take k (row_at w l from)) (x ∷ []) l (omega arith) (omega arith)))

    pub copy-end : k ≤ w → w ≤ k → m ≡ over (w * to) (row_at w l from) l
    copy-end h q = rw (part, take_all k (row_at w l from) (rw (length-row_at w l from pre.0) q))

pub ruleset moving = (copy_start, copy-length, copy-reads, copy_writes, copy-next, copy-end, rules)

-- ---- copy_words

-- the first n rows of one list, copied over another's, are the first n of the other
pub table-copied : {E : Type 0} (f : List ℕ → E) (w n : ℕ) (l m : List ℕ) → w * n ≤ length l → table f w n (over 0 (take (w * n) l) m) ≡ table f w n l
unfolding table row_at over
table-copied f w n l m room =
    let long : length (take (w * n) l) ≡ w * n = length-take-le (w * n) l room in
    tab-ext _ _ 0 n (λ k p q.
    let fits : w * k + w ≤ w * n = row-end w k n (omega arith) in
    ap f (part-front w (w * k) (take (w * n) l) (drop (0 + length (take (w * n) l)) m) (omega arith) ∙ part-read w (w * k) (w * n) 0 l fits (omega arith) ∙ rw zero-add))

module _ (n : ℕ) (from l : List ℕ) where
  -- after k words were copied
  abbrev pub copied_words : ℕ → List ℕ
  copied_words k = over 0 (take k from) l

  pub words-start : l ≡ copied_words 0
  unfolding over
  words-start = refl

  module _ (pre : (n ≤ length from) × (n ≤ length l)) (k : ℕ) (m : List ℕ) (part : m ≡ copied_words k) where
    words-front : k ≤ n → length (take k from) ≡ k
    words-front h = length-take-le k from (omega arith)

    pub words-length : k ≤ n → length m ≡ length l
    words-length h =
        let e : length (take k from) ≡ k = words-front h in
        rw (part, length_over 0 (take k from) l (omega arith))

    -- the word of a turn is within the list
    pub words-writes : k < n → k < length m
    words-writes h = let same : length m ≡ length l = words-length (omega arith) in omega arith

    pub words-next : k < n → set m k (get_or from k 0) ≡ copied_words (k + 1)
    words-next h =
        let e : length (take k from) ≡ k = words-front (omega arith) in
        let same : length m ≡ length l = words-length (omega arith) in
        let x : ℕ = get_or from k 0 in
        let long : k < length from = omega arith in
        rw (add-one, take-suc from k 0 long)
        (sets_over k (x ∷ []) m (omega arith) ∙ rw part (over-over 0 k (take k from) (x ∷ []) l (omega arith) (omega arith)))

    pub words-end : k ≤ n → n ≤ k → m ≡ over 0 (take n from) l
    words-end h q = let e : k ≡ n = omega arith in part ∙ ap (λ i. over 0 (take i from) l) e

pub ruleset copying = (words-start, words-length, words-writes, words-next, words-end, rules)

-- ---- row_offset: two words of four bytes, multiplied, leave room for two more
module _ (header i stride : ℕ) (o : header < 2 ^ 32) (p : i < 2 ^ 32) (q : stride < 2 ^ 32) where
  product-room : i * stride + (2 ^ 33 - 1) ≤ 2 ^ 64
  product-room =
      let far : i * stride ≤ 4294967295 * 4294967295 = mul-le-mul {n₂ = 4294967295} {m₂ = 4294967295} (omega arith) (omega arith) in
      omega arith

  pub offset-product : Fits w64 (i * stride)
  offset-product = record { fits = omega (arith, product-room) }

  pub offset-sum : Fits w64 (header + i * stride)
  offset-sum = record { fits = omega (arith, product-room) }

  pub offset-is : (header + i * stride ≡ header + i * stride) × (header + i * stride + 4294967296 ≤ 18446744073709551616)
  offset-is = (refl, omega (arith, product-room))

pub ruleset offsets = (offset-product, offset-sum, offset-is, rules)
