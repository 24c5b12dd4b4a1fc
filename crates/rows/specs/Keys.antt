-- Lists whose members have a key: where a key is found, and what a removal leaves found. With the laws of tables that
-- speak of keys. Assumes nothing.
use Rattle.std.specs.Prelude.{◌≡◌, Bool, true, false, ◌⊎◌, Option, Some, None, is_some, eqb, ltb, length, drop}
use Rattle.std.proofs.Math.Path.{refl}
use Rattle.std.proofs.Common.{sym, ap, ◌∙◌, inl, inr, add-zero, eq-eqb, ne_eqb, eqb-true, length-append, length-drop, get_or-drop}
use mathlib.Core.List.{List, [], ◌∷◌, ◌++◌}
use Rattle.std.proofs.Math.Logic.{⊎_elim}
use Prim.Native.Nat.{ℕ, zero, suc, ◌+◌, ◌*◌, ◌-◌, ◌≤◌, ◌<◌}
use native.Mathlib.Omega.{arith}
use Rattle.std.proofs.lemmas.Bool.{eqb-false}
use borrow.Author.Tests.{lt-ltb, le-ltb}
use Rattle.machine.specs.Machine.{pick}
use Rattle.std.proofs.Math.ListN.{get_or, get_or-append}
use Rattle.std.proofs.Math.Seq.{length-take-le, get_or-take, get_or-append_seam}
use Rattle.rules.specs.Lists.{over, pushed, removed, lookup, index_of, found, none}
use Rattle.words.specs.Over.{below_or_not, length_over, get_or-before, get_or-within, get_d_after}
use Rattle.rows.specs.Rows.{row_at, table, tab, first_word, length-table, get_or-table, table-remove}

-- two numbers are the same one, or not
pub same_or_not : (a b : ℕ) → (a ≡ b) ⊎ (a ≡ b → ⊥)
same_or_not a b = by_test (eqb a b) refl
  where
    by_test : (t : Bool) → eqb a b ≡ t → (a ≡ b) ⊎ (a ≡ b → ⊥)
    by_test true e = inl (eqb-true a b e)
    by_test false e = inr (eqb-false a b e)

ne-lt : (i j : ℕ) → (j ≡ i → ⊥) → i ≤ j → i < j
ne-lt i j q h = ⊎_elim (λ r. r) (λ r. absurd (q (omega arith))) (below_or_not i j)

-- ---- the first that has a key

module _ {A : Type 0} (key : A → ℕ) (k : ℕ) where
  -- the first has the key, or the search goes on
  pub index-here : (x : A) (xs : List A) → key x ≡ k → index_of key k (x ∷ xs) ≡ 0
  unfolding index_of
  index-here x xs h = rw (eq-eqb _ _ h)

  pub index-later : (x : A) (xs : List A) → (key x ≡ k → ⊥) → index_of key k (x ∷ xs) ≡ suc (index_of key k xs)
  unfolding index_of
  index-later x xs h = rw (ne_eqb _ _ h)

  pub lookup-here : (x : A) (xs : List A) → key x ≡ k → lookup key k (x ∷ xs) ≡ found x
  unfolding lookup
  lookup-here x xs h = rw (eq-eqb _ _ h)

  pub lookup-later : (x : A) (xs : List A) → (key x ≡ k → ⊥) → lookup key k (x ∷ xs) ≡ lookup key k xs
  unfolding lookup
  lookup-later x xs h = rw (ne_eqb _ _ h)

  pub index-nil : index_of key k [] ≡ 0
  unfolding index_of
  index-nil = refl

  pub lookup-nil : lookup key k [] ≡ none
  unfolding lookup
  lookup-nil = refl

  pub index-bound : (xs : List A) → index_of key k xs ≤ length xs
  index-bound [] = rw index-nil (omega arith)
  index-bound (x ∷ xs) =
      ⊎_elim
      (λ q. rw (index-here x xs q) (omega arith))
      (λ q. rw (index-later x xs q) (omega (arith, index-bound xs)))
      (same_or_not (key x) k)

  -- the member at the index has the key
  pub index_key : (xs : List A) (d : A) → index_of key k xs < length xs → key (get_or xs (index_of key k xs) d) ≡ k
  index_key [] d h = absurd (omega arith)
  index_key (x ∷ xs) d h =
      ⊎_elim
      (λ q. rw (index-here x xs q) q)
      (λ q. let e : index_of key k (x ∷ xs) ≡ suc (index_of key k xs) = index-later x xs q in rw e (index_key xs d (omega arith)))
      (same_or_not (key x) k)

  -- and none before it has
  pub index-first : (xs : List A) (d : A) (j : ℕ) → j < index_of key k xs → key (get_or xs j d) ≡ k → ⊥
  index-first [] d j h p = let e : index_of key k [] ≡ 0 = index-nil in omega arith
  index-first (x ∷ xs) d zero h p = let e : index_of key k (x ∷ xs) ≡ 0 = index-here x xs p in omega arith
  index-first (x ∷ xs) d (suc j) h p =
      ⊎_elim
      (λ q. let e : index_of key k (x ∷ xs) ≡ 0 = index-here x xs q in omega arith)
      (λ q. let e : index_of key k (x ∷ xs) ≡ suc (index_of key k xs) = index-later x xs q in index-first xs d j (omega arith) p)
      (same_or_not (key x) k)

  -- so a member that has it is not before it
  pub index-least : (xs : List A) (d : A) (j : ℕ) → key (get_or xs j d) ≡ k → index_of key k xs ≤ j
  index-least xs d j p = ⊎_elim (λ h. absurd (index-first xs d j h p)) (λ h. h) (below_or_not j (index_of key k xs))

  lookup-at : (xs : List A) (d : A) → index_of key k xs < length xs → lookup key k xs ≡ found (get_or xs (index_of key k xs) d)
  lookup-at [] d h = absurd (omega arith)
  lookup-at (x ∷ xs) d h =
      ⊎_elim
      (λ q. rw (lookup-here x xs q, index-here x xs q))
      (λ q. let e : index_of key k (x ∷ xs) ≡ suc (index_of key k xs) = index-later x xs q in rw (lookup-later x xs q, e) (lookup-at xs d (omega arith)))
      (same_or_not (key x) k)

  -- the member at the index is the one found
  pub lookup-found : (xs : List A) (i : ℕ) (e d : A) → i ≡ index_of key k xs → i < length xs → e ≡ get_or xs i d → lookup key k xs ≡ found e
  lookup-found xs i e d p h q = lookup-at xs d (rw p at h) ∙ rw (q, p)

  -- where the index is the length, none is
  pub lookup-none : (xs : List A) → index_of key k xs ≡ length xs → lookup key k xs ≡ none
  lookup-none [] h = lookup-nil
  lookup-none (x ∷ xs) h =
      ⊎_elim
      (λ q. absurd (let e : index_of key k (x ∷ xs) ≡ 0 = index-here x xs q in omega arith))
      (λ q. let e : index_of key k (x ∷ xs) ≡ suc (index_of key k xs) = index-later x xs q in lookup-later x xs q ∙ lookup-none xs (omega arith))
      (same_or_not (key x) k)

  -- no member has it: none is found
  pub lookup_absent : (xs : List A) (d : A) → ((j : ℕ) → j < length xs → key (get_or xs j d) ≡ k → ⊥) → lookup key k xs ≡ none
  lookup_absent xs d h =
      ⊎_elim
      (λ q. absurd (h (index_of key k xs) q (index_key xs d q)))
      (λ q. lookup-none xs (omega (arith, index-bound xs)))
      (below_or_not (index_of key k xs) (length xs))

  -- and the other way round
  pub lookup-missing : (xs : List A) (d : A) → lookup key k xs ≡ none → (j : ℕ) → j < length xs → key (get_or xs j d) ≡ k → ⊥
  lookup-missing xs d e j h p =
      let q : lookup key k xs ≡ found (get_or xs (index_of key k xs) d) = lookup-at xs d (omega (arith, index-least xs d j p)) in
      let z : ◌≡◌ {A = ℕ} 0 1 = cc in
      omega arith

-- ---- the place of the first that has a key, if one has it

-- a place, if it is before the end
unfoldable pub before : ℕ → ℕ → Option ℕ
before end place = pick (ltb place end) (Some place) None

pub before-end : (end place : ℕ) → place < end → before end place ≡ Some place
unfolding before
before-end end place h = rw (lt-ltb _ _ h)

pub past-end : (end place : ℕ) → end ≤ place → before end place ≡ None
unfolding before
past-end end place h = rw (le-ltb _ _ h)

module _ {A : Type 0} (key : A → ℕ) (k : ℕ) where
  unfoldable pub place_of : List A → Option ℕ
  place_of xs = before (length xs) (index_of key k xs)

  pub place-some : (i : ℕ) (xs : List A) → Some i ≡ place_of xs → (i ≡ index_of key k xs) × (i < length xs)
  unfolding place_of
  place-some i xs e =
      ⊎_elim
      (λ h. let s : Some i ≡ Some (index_of key k xs) = e ∙ before-end (length xs) (index_of key k xs) h in let z : i ≡ index_of key k xs = cc in (z, omega arith))
      (λ h. let s : Some i ≡ None = e ∙ past-end (length xs) (index_of key k xs) h in let z : ◌≡◌ {A = ℕ} 0 1 = cc in absurd (omega arith))
      (below_or_not (index_of key k xs) (length xs))

  pub place_none : (xs : List A) → None ≡ place_of xs → length xs ≤ index_of key k xs
  unfolding place_of
  place_none xs e =
      ⊎_elim
      (λ h. let s : None ≡ Some (index_of key k xs) = e ∙ before-end (length xs) (index_of key k xs) h in let z : ◌≡◌ {A = ℕ} 0 1 = cc in absurd (omega arith))
      (λ h. h)
      (below_or_not (index_of key k xs) (length xs))

  -- whether one has it
  pub place-known : (xs : List A) → is_some (place_of xs) ≡ ltb (index_of key k xs) (length xs)
  unfolding place_of before
  place-known xs = by_test (ltb (index_of key k xs) (length xs))
    where
      by_test : (t : Bool) → is_some (pick t (Some (index_of key k xs)) None) ≡ t
      by_test true = refl
      by_test false = refl

-- ---- a member removed

module _ {A : Type 0} (i : ℕ) (xs : List A) (here : i < length xs) where
  last_one : length (drop (length xs - 1) xs) ≡ 1
  last_one = simp length-drop (omega arith)

  room : i + length (drop (length xs - 1) xs) ≤ length xs
  room = omega (arith, last_one)

  pub length_removed : length (removed i xs) ≡ length xs - 1
  unfolding removed
  length_removed = length-take-le (length xs - 1) _ (rw (length_over i (drop (length xs - 1) xs) xs room) (omega arith))

  -- the last one takes its place
  pub removed-here : (d : A) → i < length xs - 1 → get_or (removed i xs) i d ≡ get_or xs (length xs - 1) d
  unfolding removed
  removed-here d h =
      let e : i ≡ i + 0 = omega arith in
      get_or-take (length xs - 1) _ i d h
      ∙ (ap (λ n. get_or (over i (drop (length xs - 1) xs) xs) n d) e
      ∙ (get_or-within i (drop (length xs - 1) xs) xs room 0 d (omega (arith, last_one)) ∙ (get_or-drop (length xs - 1) xs 0 d ∙ rw add-zero)))

  -- and the others stay where they were
  pub removed-other : (j : ℕ) (d : A) → j < length xs - 1 → (j ≡ i → ⊥) → get_or (removed i xs) j d ≡ get_or xs j d
  unfolding removed
  removed-other j d h q =
      get_or-take (length xs - 1) _ j d h
      ∙ ⊎_elim
      (λ r. get_or-before i (drop (length xs - 1) xs) xs room j d r)
      (λ r. get_d_after i (drop (length xs - 1) xs) xs room j d (omega (arith, last_one, ne-lt i j q r)))
      (below_or_not j i)

-- ---- each key once

module _ {A : Type 0} (key : A → ℕ) where
  -- no two members have the same key
  pub record Once (xs : List A) : Type 0 where
    pub same : (d : A) (i j : ℕ) → i < length xs → j < length xs → key (get_or xs i d) ≡ key (get_or xs j d) → i ≡ j

  pub once-nil : Once []
  once-nil = record { same = λ d i j p q e. absurd (omega arith) }

  -- a member whose key was not there
  pub once-pushed : (xs : List A) (x : A) → Once xs → lookup key (key x) xs ≡ none → Once (pushed xs x)
  once-pushed xs x o e = record { same = λ d i j p q r. by_place d i j (simp length-append at p) (simp length-append at q) r (below_or_not i (length xs)) (below_or_not j (length xs)) }
    where
      front : (d : A) (i : ℕ) → i < length xs → get_or (xs ++ (x ∷ [])) i d ≡ get_or xs i d
      front d i h = get_or-append xs (x ∷ []) d i h

      back : (d : A) (i : ℕ) → i < length xs + 1 → length xs ≤ i → get_or (xs ++ (x ∷ [])) i d ≡ x
      back d i p h = let s : i ≡ length xs = omega arith in rw (s, get_or-append_seam xs x [] d)

      by_place : (d : A) (i j : ℕ) → i < length xs + 1 → j < length xs + 1 → key (get_or (xs ++ (x ∷ [])) i d) ≡ key (get_or (xs ++ (x ∷ [])) j d)
          → (i < length xs) ⊎ (length xs ≤ i) → (j < length xs) ⊎ (length xs ≤ j) → i ≡ j
      by_place d i j p q r (inl a) (inl b) = o.same d i j a b (rw (front d i a, front d j b) at r)
      by_place d i j p q r (inl a) (inr b) = absurd (lookup-missing key (key x) xs d e i a (rw (front d i a, back d j q b) at r))
      by_place d i j p q r (inr a) (inl b) = absurd (lookup-missing key (key x) xs d e j b (sym (rw (back d i p a, front d j b) at r)))
      by_place d i j p q r (inr a) (inr b) = omega arith

  -- with each key once, a member that has the key is the one found
  pub lookup-once : (k : ℕ) (xs : List A) → Once xs → (d : A) (j : ℕ) → j < length xs → key (get_or xs j d) ≡ k → lookup key k xs ≡ found (get_or xs j d)
  lookup-once k xs o d j h p =
      let n : index_of key k xs < length xs = omega (arith, index-least key k xs d j p) in
      lookup-found key k xs j (get_or xs j d) d (o.same d j (index_of key k xs) h n (p ∙ sym (index_key key k xs d n))) h refl

  module _ (i : ℕ) (xs : List A) (o : Once xs) (here : i < length xs) where
    -- a removal leaves each key once
    pub once-removed : Once (removed i xs)
    once-removed =
        record {
          same = λ d a b p q r.
              by_place d a b (rw (length_removed i xs here) at p) (rw (length_removed i xs here) at q) r (same_or_not a i) (same_or_not b i);
        }
      where
        by_place : (d : A) (a b : ℕ) → a < length xs - 1 → b < length xs - 1 → key (get_or (removed i xs) a d) ≡ key (get_or (removed i xs) b d)
            → (a ≡ i) ⊎ (a ≡ i → ⊥) → (b ≡ i) ⊎ (b ≡ i → ⊥) → a ≡ b
        by_place d a b p q r (inl u) (inl v) = omega arith
        by_place d a b p q r (inl u) (inr v) =
            let e : length xs - 1 ≡ b = o.same d (length xs - 1) b (omega arith) (omega arith) (rw (u, removed-here i xs here d (omega arith), removed-other i xs here b d q v) at r) in
            omega arith
        by_place d a b p q r (inr u) (inl v) =
            let e : a ≡ length xs - 1 = o.same d a (length xs - 1) (omega arith) (omega arith) (rw (v, removed-other i xs here a d p u, removed-here i xs here d (omega arith)) at r) in
            omega arith
        by_place d a b p q r (inr u) (inr v) =
            o.same d a b (omega arith) (omega arith) (rw (removed-other i xs here a d p u, removed-other i xs here b d q v) at r)

    module _ (k : ℕ) (place : i ≡ index_of key k xs) (d : A) where
      key_here : key (get_or xs i d) ≡ k
      key_here = rw place (index_key key k xs d (rw place at here))

      gone : lookup key k (removed i xs) ≡ none
      gone = lookup_absent key k (removed i xs) d (λ j p q. by_place j (rw (length_removed i xs here) at p) q (same_or_not j i))
        where
          by_place : (j : ℕ) → j < length xs - 1 → key (get_or (removed i xs) j d) ≡ k → (j ≡ i) ⊎ (j ≡ i → ⊥) → ⊥
          by_place j p q (inl u) =
              let e : length xs - 1 ≡ i = o.same d (length xs - 1) i (omega arith) here (rw (u, removed-here i xs here d (omega arith)) at q ∙ sym key_here) in
              omega arith
          by_place j p q (inr u) = u (o.same d j i (omega arith) here (rw (removed-other i xs here j d p u) at q ∙ sym key_here))

      module _ (k' : ℕ) (other : k' ≡ k → ⊥) where
        -- what had the key still has it, at its place or at the removed one's
        stays : (j : ℕ) → j < length xs → key (get_or xs j d) ≡ k' → lookup key k' (removed i xs) ≡ found (get_or xs j d)
        stays j h p = by_place (below_or_not j (length xs - 1))
          where
            apart : j ≡ i → ⊥
            apart u = other (sym p ∙ (ap (λ n. key (get_or xs n d)) u ∙ key_here))

            by_place : (j < length xs - 1) ⊎ (length xs - 1 ≤ j) → lookup key k' (removed i xs) ≡ found (get_or xs j d)
            by_place (inl q) =
                let e : get_or (removed i xs) j d ≡ get_or xs j d = removed-other i xs here j d q apart in
                lookup-once k' (removed i xs) once-removed d j (rw (length_removed i xs here) q) (ap key e ∙ p) ∙ ap found e
            by_place (inr q) =
                let s : length xs - 1 ≡ j = omega arith in
                let h' : i < length xs - 1 = ne-lt i (length xs - 1) (λ u. apart (sym s ∙ u)) (omega arith) in
                let e : get_or (removed i xs) i d ≡ get_or xs j d = removed-here i xs here d h' ∙ ap (λ n. get_or xs n d) s in
                lookup-once k' (removed i xs) once-removed d i (rw (length_removed i xs here) h') (ap key e ∙ p) ∙ ap found e

        -- and what had not has not
        missing : lookup key k' xs ≡ none → lookup key k' (removed i xs) ≡ none
        missing z = lookup_absent key k' (removed i xs) d (λ j p q. by_place j (rw (length_removed i xs here) at p) q (same_or_not j i))
          where
            by_place : (j : ℕ) → j < length xs - 1 → key (get_or (removed i xs) j d) ≡ k' → (j ≡ i) ⊎ (j ≡ i → ⊥) → ⊥
            by_place j p q (inl u) = lookup-missing key k' xs d z (length xs - 1) (omega arith) (rw (u, removed-here i xs here d (omega arith)) at q)
            by_place j p q (inr u) = lookup-missing key k' xs d z j (omega arith) (rw (removed-other i xs here j d p u) at q)

        kept : lookup key k' (removed i xs) ≡ lookup key k' xs
        kept =
            ⊎_elim
            (λ q. stays (index_of key k' xs) q (index_key key k' xs d q) ∙ sym (lookup-found key k' xs (index_of key k' xs) (get_or xs (index_of key k' xs) d) d refl q refl))
            (λ q. let z : lookup key k' xs ≡ none = lookup-none key k' xs (omega (arith, index-bound key k' xs)) in missing z ∙ sym z)
            (below_or_not (index_of key k' xs) (length xs))

  -- a removed key is found no more
  pub lookup-removed-same : (k i : ℕ) (xs : List A) → Once xs → i ≡ index_of key k xs → i < length xs → lookup key k (removed i xs) ≡ none
  lookup-removed-same k i [] o p h = absurd (omega arith)
  lookup-removed-same k i (x ∷ xs) o p h = gone i (x ∷ xs) o h k p x

  -- and every other is found as before
  pub lookup-removed-other : (k k' i : ℕ) (xs : List A) → Once xs → i ≡ index_of key k xs → i < length xs → (k' ≡ k → ⊥)
      → lookup key k' (removed i xs) ≡ lookup key k' xs
  lookup-removed-other k k' i [] o p h q = absurd (omega arith)
  lookup-removed-other k k' i (x ∷ xs) o p h q = kept i (x ∷ xs) o h k p x k' q

  -- a pushed member is found by its key, and every other as before
  pub lookup-pushed-other : (k : ℕ) (xs : List A) (x : A) → (key x ≡ k → ⊥) → lookup key k (pushed xs x) ≡ lookup key k xs
  unfolding lookup
  lookup-pushed-other k [] x h = rw (ne_eqb _ _ h)
  lookup-pushed-other k (y ∷ xs) x h = rw (lookup-pushed-other k xs x h)

  pub lookup-pushed-same : (k : ℕ) (xs : List A) (x : A) → lookup key k xs ≡ none → key x ≡ k → lookup key k (pushed xs x) ≡ found x
  lookup-pushed-same k [] x z h = lookup-here key k x [] h
  lookup-pushed-same k (y ∷ xs) x z h =
      ⊎_elim
      (λ q. absurd (let s : found y ≡ none = sym (lookup-here key k y xs q) ∙ z in let t : ◌≡◌ {A = ℕ} 0 1 = cc in omega arith))
      (λ q. lookup-later key k y (pushed xs x) q ∙ lookup-pushed-same k xs x (sym (lookup-later key k y xs q) ∙ z) h)
      (same_or_not (key y) k)

-- ---- keys of tables

module _ {E : Type 0} (f : List ℕ → E) (key : E → ℕ) (k : ℕ) (word : List ℕ → ℕ) (same : (r : List ℕ) → key (f r) ≡ word r) (row : ℕ → List ℕ) where
  find-tab : (i n : ℕ) → index_of key k (tab (λ i. f (row i)) i n) ≡ index_of word k (tab row i n)
  unfolding tab index_of
  find-tab i zero = refl
  find-tab i (suc n) = rw (same (row i), find-tab (suc i) n)

module _ {E : Type 0} (f : List ℕ → E) (w : ℕ) (key : E → ℕ) (k : ℕ) where
  -- members that are read from rows are found where the rows are that have the word for their key
  pub find-table-by : (word : List ℕ → ℕ) → ((r : List ℕ) → key (f r) ≡ word r) → (n : ℕ) (l : List ℕ) → index_of key k (table f w n l) ≡ index_of word k (table (λ r. r) w n l)
  unfolding table
  find-table-by word same n l = find-tab f key k word same (λ i. row_at w l i) 0 n

  -- and so by the rows' first words
  pub find-table : ((r : List ℕ) → key (f r) ≡ first_word r) → (n : ℕ) (l : List ℕ) → index_of key k (table f w n l) ≡ index_of first_word k (table (λ r. r) w n l)
  find-table same n l = find-table-by first_word same n l

  pub place-table : (word : List ℕ → ℕ) → ((r : List ℕ) → key (f r) ≡ word r) → (n : ℕ) (l : List ℕ) → place_of key k (table f w n l) ≡ place_of word k (table (λ r. r) w n l)
  unfolding place_of
  place-table word same n l = rw (find-table-by word same n l, length-table f w n l, length-table (λ r. r) w n l)

  module _ (n : ℕ) (l : List ℕ) where
    -- where rows have a place for the key, it is one of them, and what is read there is found
    pub place_row : (i : ℕ) → Some i ≡ place_of key k (table f w n l) → i < n
    place_row i e = omega (arith, (place-some key k i (table f w n l) e).1, length-table f w n l)

    pub place-found : (i : ℕ) → Some i ≡ place_of key k (table f w n l) → lookup key k (table f w n l) ≡ found (f (row_at w l i))
    place-found i e =
        lookup-found key k (table f w n l) i (f (row_at w l i)) (f (row_at w l i)) (place-some key k i (table f w n l) e).0 (place-some key k i (table f w n l) e).1
        (sym (get_or-table f w n l i (f (row_at w l i)) (place_row i e)))

    -- and where they have none, nothing is
    pub place-missing : None ≡ place_of key k (table f w n l) → lookup key k (table f w n l) ≡ none
    place-missing e = lookup-none key k (table f w n l) (omega (arith, place_none key k (table f w n l) e, index-bound key k (table f w n l)))

  -- the row at the index is the one found
  pub lookup-row : (n i : ℕ) (l : List ℕ) → i ≡ index_of key k (table f w n l) → i < n → lookup key k (table f w n l) ≡ found (f (row_at w l i))
  lookup-row n i l p h =
      lookup-found key k (table f w n l) i (f (row_at w l i)) (f (row_at w l i)) p (rw length-table h) (sym (get_or-table f w n l i (f (row_at w l i)) h))

  pub lookup-no-row : (n i : ℕ) (l : List ℕ) → i ≡ index_of key k (table f w n l) → n ≤ i → lookup key k (table f w n l) ≡ none
  lookup-no-row n i l p h =
      let e : length (table f w n l) ≡ n = length-table f w n l in
      lookup-none key k (table f w n l) (omega (arith, index-bound key k (table f w n l)))

  -- the same of what `find_row` says, and of what `move_row` then makes of the rows
  module _ (same : (r : List ℕ) → key (f r) ≡ first_word r) (n i : ℕ) (l : List ℕ) (at : i ≡ index_of first_word k (table (λ r. r) w n l)) where
    index_here : i ≡ index_of key k (table f w n l)
    index_here = at ∙ sym (find-table same n l)

    pub row-found : i < n → lookup key k (table f w n l) ≡ found (f (row_at w l i))
    row-found h = lookup-row n i l index_here h

    pub row-missing : n ≤ i → lookup key k (table f w n l) ≡ none
    row-missing h = lookup-no-row n i l index_here h

    pub row-removed : (m : List ℕ) → w * n ≤ length l → i < n → m ≡ over (w * i) (row_at w l (n - 1)) l
        → table f w (n - 1) m ≡ removed (index_of key k (table f w n l)) (table f w n l)
    row-removed m room h e = rw (e, ← index_here) (table-remove f w n i l room h)
