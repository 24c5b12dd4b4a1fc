-- One list after another: what is found there, and that each key is there once. Assumes nothing.
use Rattle.std.specs.Prelude.{◌≡◌, refl, List, [], ◌∷◌, ◌++◌, ◌⊎◌, ℕ, zero, suc, ◌+◌, ◌-◌, ◌≤◌, ◌<◌, length, get_or}
use Rattle.std.proofs.Common.{sym, ap, ◌∙◌, inl, inr, arith, length-append, get_or-append-add}
use Rattle.std.proofs.Math.ListN.{get_or-append}
use Rattle.rules.specs.Lists.{Found, lookup}
use Rattle.rules.specs.Lists.Found.{none, found}
use Rattle.words.specs.Over.{below_or_not}
use Rattle.rows.specs.Keys.{Once, lookup-missing}
use Rattle.promises_of_packets.specs.Held.{Every}
use Rattle.promises_of_saving.specs.Those.{or_else, found-in-both}

every-at : {A : Type 0} (P : A → Type 0) (xs : List A) (d : A) (i : ℕ) → i < length xs → Every P xs → P (get_or xs i d)
unfolding Every
every-at P [] d i l h = absurd (omega arith)
every-at P (x ∷ xs) d zero l h = h.0
every-at P (x ∷ xs) d (suc i) l h = every-at P xs d i (omega arith) h.1

-- none of some has its key
abbrev pub Free : {A : Type 0} → (A → ℕ) → List A → A → Type 0
Free key xs x = lookup key (key x) xs ≡ none

module _ {A : Type 0} (key : A → ℕ) (xs ys : List A) where
  -- what the first has is found
  pub lookup-front : (k : ℕ) (x : A) → lookup key k xs ≡ found x → lookup key k (xs ++ ys) ≡ found x
  lookup-front k x e = found-in-both key k xs ys ∙ ap (λ f. or_else f (lookup key k ys)) e

  -- and what it has not is looked up in the second
  pub lookup-back : (k : ℕ) → lookup key k xs ≡ none → lookup key k (xs ++ ys) ≡ lookup key k ys
  lookup-back k e = found-in-both key k xs ys ∙ ap (λ f. or_else f (lookup key k ys)) e

  -- so whatever is found is in one of them
  pub front-or-back : (k : ℕ) (x : A) → lookup key k (xs ++ ys) ≡ found x → (lookup key k xs ≡ found x) ⊎ (lookup key k ys ≡ found x)
  front-or-back k x e = by_found (lookup key k xs) refl
    where
      by_found : (f : Found A) → lookup key k xs ≡ f → (lookup key k xs ≡ found x) ⊎ (lookup key k ys ≡ found x)
      by_found none h = inr (sym (lookup-back k h) ∙ e)
      by_found (found y) h = inl (h ∙ (sym (lookup-front k y h) ∙ e))

  -- each key once, where the second has none of the first's
  pub once-both : Once key xs → Once key ys → Every (Free key xs) ys → Once key (xs ++ ys)
  once-both o q free = record { same = λ d i j p r e. by_place d i j (simp length-append at p) (simp length-append at r) e (below_or_not i (length xs)) (below_or_not j (length xs)) }
    where
      front : (d : A) (i : ℕ) → i < length xs → get_or (xs ++ ys) i d ≡ get_or xs i d
      front d i h = get_or-append xs ys d i h

      back : (d : A) (i : ℕ) → length xs ≤ i → get_or (xs ++ ys) i d ≡ get_or ys (i - length xs) d
      back d i h = let s : i ≡ length xs + (i - length xs) = omega arith in ap (λ n. get_or (xs ++ ys) n d) s ∙ get_or-append-add xs ys (i - length xs) d

      apart : (d : A) (i j : ℕ) → i < length xs → length xs ≤ j → j < length xs + length ys → key (get_or (xs ++ ys) i d) ≡ key (get_or (xs ++ ys) j d) → ⊥
      apart d i j a b r e =
          lookup-missing key (key (get_or ys (j - length xs) d)) xs d (every-at (Free key xs) ys d (j - length xs) (omega arith) free) i a (rw (front d i a, back d j b) at e)

      by_place : (d : A) (i j : ℕ) → i < length xs + length ys → j < length xs + length ys → key (get_or (xs ++ ys) i d) ≡ key (get_or (xs ++ ys) j d)
          → (i < length xs) ⊎ (length xs ≤ i) → (j < length xs) ⊎ (length xs ≤ j) → i ≡ j
      by_place d i j p r e (inl a) (inl b) = o.same d i j a b (rw (front d i a, front d j b) at e)
      by_place d i j p r e (inl a) (inr b) = absurd (apart d i j a b r e)
      by_place d i j p r e (inr a) (inl b) = absurd (apart d j i b a p (sym e))
      by_place d i j p r e (inr a) (inr b) =
          let s : i - length xs ≡ j - length xs = q.same d (i - length xs) (j - length xs) (omega arith) (omega arith) (rw (back d i a, back d j b) at e) in
          omega arith
