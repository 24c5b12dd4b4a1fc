-- The fields of rows of any kind, one after the other: what their writers ask. Assumes nothing.
use Rattle.std.specs.Prelude.{◌≡◌, ℕ, ◌+◌, ◌*◌, ◌≤◌, ◌<◌, length, get_or}
use Rattle.std.proofs.Math.Path.{sym, ap}
use Rattle.std.proofs.Common.{◌∙◌, mul-le-mul_left, mul-suc, mul-zero, arith, rules}
use mathlib.Core.List.{List, [], ◌∷◌, ◌++◌, append_assoc, append-nil}
use Rattle.std.proofs.Math.ListN.{length-append}
use Rattle.rules.specs.Lists.{over}
use Rattle.rules.specs.Saved.{file_of}
use Rattle.words.specs.Over.{length_over, over-over}
use Rattle.rows.specs.Rows.{row_at, tab}
use Rattle.saved_order.specs.Orders.{Rows, listed, length-listed, listed_suc}
use Rattle.saved_write.specs.Fields.{file-append, over_none}

-- each has so many bytes
pub record Wide {A : Type 0} (fields : A → List ℕ) (bytes : ℕ) : Type 0 where
  pub wide : (x : A) → length (file_of (fields x)) ≡ bytes

module _ {A : Type 0} (fields : A → List ℕ) where
  -- the fields of all
  unfoldable pub all_fields : List A → List ℕ
  all_fields [] = []
  all_fields (x ∷ xs) = fields x ++ all_fields xs

  -- one more
  all_append : (xs : List A) (x : A) → all_fields (xs ++ (x ∷ [])) ≡ all_fields xs ++ fields x
  unfolding all_fields
  all_append [] x = append-nil (fields x)
  all_append (y ∷ xs) x = ap (λ l. fields y ++ l) (all_append xs x) ∙ sym (append_assoc (fields y) (all_fields xs) (fields x))

  pub length-all : (bytes : ℕ) → Wide fields bytes → (xs : List A) → length (file_of (all_fields xs)) ≡ bytes * length xs
  unfolding all_fields file_of
  length-all bytes sized [] = sym (mul-zero bytes)
  length-all bytes sized (x ∷ xs) =
      rw (file-append (fields x) (all_fields xs), length-append, mul-suc) (omega (arith, sized.wide x, length-all bytes sized xs))

-- the first i rows of an order, each of so many bytes, are written from a place on
pub record WritesTo {A : Type 0} (fields : A → List ℕ) (view : List ℕ → A) (w bytes at : ℕ) (l order b : List ℕ) (i : ℕ) (m : List ℕ) : Type 0 where
  pub sized : Wide fields bytes
  pub is : m ≡ over at (file_of (all_fields fields (listed view w i l order))) b

module _ {A : Type 0} (fields : A → List ℕ) (view : List ℕ → A) (w bytes at : ℕ) (l order b : List ℕ) where
  -- the bytes of the first i
  abbrev bytes_to : ℕ → List ℕ
  bytes_to i = file_of (all_fields fields (listed view w i l order))

  pub items-start : Wide fields bytes → WritesTo fields view w bytes at l order b 0 b
  unfolding file_of all_fields listed tab
  items-start sized = record { sized = sized; is = over_none at b }

  module _ (i : ℕ) (m : List ℕ) (to : WritesTo fields view w bytes at l order b i m) (count : ℕ) (room : at + bytes * count ≤ length b) where
    front : length (bytes_to i) ≡ bytes * i
    front = length-all fields bytes to.sized (listed view w i l order) ∙ ap (λ n. bytes * n) (length-listed view w i l order)

    one_end : i < count → bytes * i + bytes ≤ bytes * count
    one_end h = omega (arith, mul-le-mul_left bytes h, mul-suc bytes i)

    pub items-length : i ≤ count → length m ≡ length b
    items-length h = rw to.is (length_over at (bytes_to i) b (omega (arith, room, front, mul-le-mul_left bytes h)))

    pub item_room : i < count → at + bytes * i + bytes ≤ length m
    item_room h = omega (arith, room, items-length (omega arith), one_end h)

    pub items-next : (x : A) (m' : List ℕ) → i < count → x ≡ view (row_at w l (get_or order i 0)) → m' ≡ over (at + bytes * i) (file_of (fields x)) m
        → WritesTo fields view w bytes at l order b (i + 1) m'
    items-next x m' h is e =
        let one : bytes_to (i + 1) ≡ bytes_to i ++ file_of (fields x) =
        rw (listed_suc view w i l order, ← is)
        (ap file_of (all_append fields (listed view w i l order) x) ∙ file-append (all_fields fields (listed view w i l order)) (fields x)) in
        let all : m' ≡ over at (bytes_to (i + 1)) b =
        e
        ∙ rw (one, to.is)
        (over-over at (at + bytes * i) (bytes_to i) (file_of (fields x)) b
        (omega (arith, room, front, to.sized.wide x, one_end h))
        (omega (arith, front))) in
        record { sized = to.sized; is = all }

    pub items-end : i ≤ count → count ≤ i → m ≡ over at (file_of (all_fields fields (listed view w count l order))) b
    items-end h q = let e : i ≡ count = omega arith in to.is ∙ ap (λ n. over at (bytes_to n) b) e

-- the row that is read is there
pub item-there : (limit : ℕ) (order : List ℕ) (count i : ℕ) → Rows limit order count → i < count → get_or order i 0 < limit
item-there limit order count i rows h = rows.there i h

pub ruleset writing_items = (items-start, items-length, item-there, item_room, items-next, items-end, rules)
