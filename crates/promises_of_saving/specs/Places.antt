-- "It gives the offset of the first such field .. or byte": every place that is reported lies in the file, or is its length, and no broken rule has a
-- lower one. Assumes nothing.
use Rattle.std.specs.Prelude.{◌≡◌, Bool, ◌⊎◌, ltb}
use Rattle.std.proofs.Math.Path.{refl, subst}
use Rattle.std.proofs.Common.{sym, ap, ◌∙◌, mul-suc, ltb-true, lt-ltb}
use Rattle.std.proofs.Math.Bool.{true, false}
use mathlib.Core.List.{List, [], ◌∷◌, ◌++◌, append_assoc}
use Rattle.std.proofs.Math.Logic.{inl, inr, ⊎_elim}
use Prim.Native.Nat.{ℕ, zero, suc, ◌+◌, ◌*◌, ◌-◌, ◌≤◌, ◌<◌}
use native.Mathlib.Omega.{arith}
use Rattle.std.proofs.Math.ListN.{length, length-drop}
use Rattle.machine.specs.Machine.{pick}
use Rattle.rules.specs.Lists.Found.{found}
use Rattle.rules.specs.Layouts.{word, long}
use Rattle.rules.specs.State.{State}
use Rattle.rules.specs.Numbers.{bad_file}
use Rattle.rules.specs.declared.Resource.{Resource}
use Rattle.rules.specs.Saved.{resource_bytes, memory_place, count_place, head_bytes, name_bytes, token_bytes, number_bytes}
use Rattle.rules.specs.Loaded.{Rule, missing, resource_rules, resources_rules, end_rule, first_broken, names_place, tokens_place, end_place, has_number, form_in, before_sections, sections, detail_rules, head_rules, name_rules, names_rules, token_rules, tokens_rules, section_3_rules, section_4_rules, section_2, later_rules, sections_rules, behind, file_rules, bad_place, call_load}
use Rattle.rules.specs.declared.Form.{Form}
use Rattle.rules.specs.declared.Form.TheVariants.{One, Two}
use Rattle.words.specs.Over.{below_or_not}
use Rattle.promises_of_packets.specs.Names.{none-not-found, found-same, true-not-false}
use Rattle.promises_of_saving.specs.FirstBroken.{first_one, next_one, no-rule}
use Rattle.promises_of_saving.specs.Numbered.{number-is-whole}
use Rattle.promises_of_saving.specs.GoodFile.{memory_rules}
use Rattle.promises_of_saving.specs.Refusals.{first-is-bad, refused-exactly}

-- ---- rules of fields that follow each other, from a place to another: each is reported at its field, and is broken where that is not there

unfoldable pub InTurn : List ℕ → ℕ → ℕ → List Rule → Type 0
InTurn b at end [] = at ≡ end
InTurn b at end (r ∷ rs) = (r.place ≡ at) × ((length b < at + 4 → r.broken ≡ true) × InTurn b (at + 4) end rs)

module _ (b : List ℕ) where
  gone : (at : ℕ) → length b < at + 4 → missing b at ≡ true
  gone at h = lt-ltb (length b) (at + 4) h

  last : (at end : ℕ) → at ≡ end → InTurn b at end []
  unfolding InTurn
  last at end e = e

  turn : (at end : ℕ) (r : Rule) (rs : List Rule) → r.place ≡ at → (length b < at + 4 → r.broken ≡ true) → InTurn b (at + 4) end rs → InTurn b at end (r ∷ rs)
  unfolding InTurn
  turn at end r rs e h later = (e, (h, later))

  both-in-turn : (at mid end : ℕ) (xs ys : List Rule) → InTurn b at mid xs → InTurn b mid end ys → InTurn b at end (xs ++ ys)
  unfolding InTurn
  both-in-turn at mid end [] ys t u = subst (λ k. InTurn b k end ys) (sym t) u
  both-in-turn at mid end (x ∷ xs) ys t u = (t.0, (t.1.0, both-in-turn (at + 4) mid end xs ys t.1.1 u))

  -- a row of so many bytes, and n more
  rows-in-turn : (w n at : ℕ) (xs ys : List Rule) → InTurn b at (at + w) xs → InTurn b (at + w) (at + w + w * n) ys → InTurn b at (at + w * suc n) (xs ++ ys)
  rows-in-turn w n at xs ys t u =
      let e : at + w + w * n ≡ at + w * suc n = rw mul-suc (omega arith) in
      both-in-turn at (at + w) (at + w * suc n) xs ys t (subst (λ k. InTurn b (at + w) k ys) e u)

  -- ---- and after the last field the end

  pub record ToTheEnd (at : ℕ) (rs : List Rule) : Type 0 where
    pub fields : List Rule
    pub end : ℕ
    pub split : rs ≡ fields ++ (end_rule b end ∷ [])
    pub in-turn : InTurn b at end fields

  the_end : (at : ℕ) → ToTheEnd at (end_rule b at ∷ [])
  the_end at = record { fields = []; end = at; split = refl; in-turn = last at at refl }

  then-to-the-end : (at mid : ℕ) (xs ys : List Rule) → InTurn b at mid xs → ToTheEnd mid ys → ToTheEnd at (xs ++ ys)
  then-to-the-end at mid xs ys t u =
      record {
        fields = xs ++ u.fields;
        end = u.end;
        split = ap (λ zs. xs ++ zs) u.split ∙ sym (append_assoc xs u.fields (end_rule b u.end ∷ []));
        in-turn = both-in-turn at mid u.end xs u.fields t u.in-turn;
      }

  -- ---- so stand the rules of a file

  detail-in-turn : (f : Form) → InTurn b 76 (memory_place f) (detail_rules f b)
  detail-in-turn One = last _ _ refl
  detail-in-turn Two = turn _ _ _ _ refl (λ h. rw (gone 76 h)) (last _ _ refl)

  head-in-turn : (f : Form) → InTurn b 0 (head_bytes f) (head_rules f b)
  head-in-turn f =
      turn _ _ _ _ refl (λ h. rw (gone 0 h))
      (turn _ _ _ _ refl (λ h. rw (gone 4 h))
      (turn _ _ _ _ refl (λ h. rw (gone 8 h))
      (turn _ _ _ _ refl (λ h. rw (gone 12 h))
      (turn _ _ _ _ refl (λ h. rw (gone 16 h))
      (turn _ _ _ _ refl (λ h. rw (gone 20 h))
      (turn _ _ _ _ refl (λ h. rw (gone 24 h))
      (turn _ _ _ _ refl (λ h. rw (gone 28 h))
      (turn _ _ _ _ refl (λ h. rw (gone 32 h))
      (turn _ _ _ _ refl (λ h. rw (gone 36 h))
      (turn _ _ _ _ refl (λ h. rw (gone 40 h))
      (turn _ _ _ _ refl (λ h. rw (gone 44 h))
      (turn _ _ _ _ refl (λ h. rw (gone 48 h))
      (turn _ _ _ _ refl (λ h. rw (gone 52 h))
      (turn _ _ _ _ refl (λ h. rw (gone 56 h))
      (turn _ _ _ _ refl (λ h. rw (gone 60 h))
      (turn _ _ _ _ refl (λ h. rw (gone 64 h))
      (turn _ _ _ _ refl (λ h. rw (gone 68 h))
      (turn _ _ _ _ refl (λ h. rw (gone 72 h))
      (both-in-turn _ (memory_place f) _ (detail_rules f b) (memory_rules f b) (detail-in-turn f)
      (turn _ _ _ _ refl (λ h. rw (gone (memory_place f) h))
      (turn _ _ _ _ refl (λ h. rw (gone (memory_place f + 4) h))
      (turn _ _ _ _ (omega arith) (λ h. rw (gone (memory_place f + 8) (omega arith)))
      (turn _ _ _ _ (omega arith) (λ h. rw (gone (count_place f) (omega arith))) (last _ _ (omega arith)))))))))))))))))))))))))

  resource-in-turn : (at before : ℕ) → InTurn b at (at + resource_bytes) (resource_rules b at before)
  resource-in-turn at before =
      turn _ _ _ _ refl (λ h. rw (gone at (omega arith)))
      (turn _ _ _ _ refl (λ h. rw (gone (at + 4) (omega arith)))
      (turn _ _ _ _ (omega arith) (λ h. rw (gone (at + 8) (omega arith)))
      (turn _ _ _ _ (omega arith) (λ h. rw (gone (at + 12) (omega arith)))
      (turn _ _ _ _ (omega arith) (λ h. rw (gone (at + 16) (omega arith)))
      (turn _ _ _ _ (omega arith) (λ h. rw (gone (at + 20) (omega arith)))
      (turn _ _ _ _ (omega arith) (λ h. rw (gone (at + 24) (omega arith)))
      (turn _ _ _ _ (omega arith) (λ h. rw (gone (at + 28) (omega arith)))
      (turn _ _ _ _ (omega arith) (λ h. rw (gone (at + 32) (omega arith)))
      (turn _ _ _ _ (omega arith) (λ h. rw (gone (at + 36) (omega arith)))
      (turn _ _ _ _ (omega arith) (λ h. rw (gone (at + 40) (omega arith)))
      (turn _ _ _ _ (omega arith) (λ h. rw (gone (at + 44) (omega arith))) (last _ _ (omega arith)))))))))))))

  resources-in-turn : (n at before : ℕ) → InTurn b at (at + resource_bytes * n) (resources_rules n b at before)
  unfolding resources_rules
  resources-in-turn zero at before = last _ _ (omega arith)
  resources-in-turn (suc n) at before =
      rows-in-turn resource_bytes n at (resource_rules b at before) (resources_rules n b (at + resource_bytes) (word b at)) (resource-in-turn at before)
      (resources-in-turn n (at + resource_bytes) (word b at))

  module _ (rs : List Resource) where
    name-in-turn : (at before : ℕ) → InTurn b at (at + name_bytes) (name_rules rs b at before)
    name-in-turn at before =
        turn _ _ _ _ refl (λ h. rw (gone at (omega arith)))
        (turn _ _ _ _ refl (λ h. rw (gone (at + 4) (omega arith))) (last _ _ (omega arith)))

    names-in-turn : (n at before : ℕ) → InTurn b at (at + name_bytes * n) (names_rules n rs b at before)
    unfolding names_rules
    names-in-turn zero at before = last _ _ (omega arith)
    names-in-turn (suc n) at before =
        rows-in-turn name_bytes n at (name_rules rs b at before) (names_rules n rs b (at + name_bytes) (word b at)) (name-in-turn at before)
        (names-in-turn n (at + name_bytes) (word b at))

    token-in-turn : (at before : ℕ) → InTurn b at (at + token_bytes) (token_rules rs b at before)
    token-in-turn at before =
        turn _ _ _ _ refl (λ h. rw (gone at (omega arith)))
        (turn _ _ _ _ refl (λ h. rw (gone (at + 4) (omega arith)))
        (turn _ _ _ _ (omega arith) (λ h. rw (gone (at + 8) (omega arith))) (last _ _ (omega arith))))

    tokens-in-turn : (n at before : ℕ) → InTurn b at (at + token_bytes * n) (tokens_rules n rs b at before)
    unfolding tokens_rules
    tokens-in-turn zero at before = last _ _ (omega arith)
    tokens-in-turn (suc n) at before =
        rows-in-turn token_bytes n at (token_rules rs b at before) (tokens_rules n rs b (at + token_bytes) (long b at)) (token-in-turn at before)
        (tokens-in-turn n (at + token_bytes) (long b at))

    section-4-in-turn : (at : ℕ) → ToTheEnd at (section_4_rules rs b at)
    unfolding section_4_rules
    section-4-in-turn at =
        then-to-the-end at (end_place at (word b at)) (_ ∷ tokens_rules (word b at) rs b (at + 4) 0) _
        (turn _ _ _ _ refl (λ h. rw (gone at h)) (tokens-in-turn (word b at) (at + 4) 0)) (the_end (end_place at (word b at)))

    section-3-in-turn : (at : ℕ) → ToTheEnd at (section_3_rules rs b at)
    unfolding section_3_rules
    section-3-in-turn at =
        then-to-the-end at (tokens_place at (word b at)) (_ ∷ names_rules (word b at) rs b (at + 4) 0) _
        (turn _ _ _ _ refl (λ h. rw (gone at h)) (names-in-turn (word b at) (at + 4) 0)) (section-4-in-turn (tokens_place at (word b at)))

  later-in-turn : (f : Form) (at : ℕ) → ToTheEnd at (later_rules f b at)
  later-in-turn One at = the_end at
  later-in-turn Two at = section-3-in-turn (section_2 Two b) at

  sections-in-turn : (f : Form) → ToTheEnd 0 (sections_rules f b)
  unfolding sections_rules
  sections-in-turn f =
      let n : ℕ = word b (count_place f) in
      then-to-the-end 0 (head_bytes f) (head_rules f b) _ (head-in-turn f)
      (then-to-the-end (head_bytes f) (names_place f n) (resources_rules n b (head_bytes f) 0) _ (resources-in-turn n (head_bytes f) 0) (later-in-turn f (names_place f n)))

  -- ---- the first broken rule is in the file: no field before it is missing

  turned : (at end : ℕ) (rs rest : List Rule) (p : ℕ) → at ≤ length b → InTurn b at end rs → first_broken (rs ++ rest) ≡ found p
      → (p ≤ length b) ⊎ (first_broken rest ≡ found p)
  unfolding InTurn
  turned at end [] rest p h t e = inr e
  turned at end (r ∷ rs) rest p h t e = by_test r.broken refl (λ k i. turned (at + 4) end rs rest p k t.1.1 i)
    where
      by_test : (u : Bool) → r.broken ≡ u → (at + 4 ≤ length b → first_broken (rs ++ rest) ≡ found p → (p ≤ length b) ⊎ (first_broken rest ≡ found p))
          → (p ≤ length b) ⊎ (first_broken rest ≡ found p)
      by_test true q later =
          let s : r.place ≡ p = found-same (sym (first_one r (rs ++ rest) q) ∙ e) in
          inl (omega (arith, t.0))
      by_test false q later =
          ⊎_elim (λ l. absurd (true-not-false (sym (t.1.0 l) ∙ q))) (λ l. later l (sym (next_one r (rs ++ rest) q) ∙ e)) (below_or_not (length b) (at + 4))

  end-turned : (end p : ℕ) → first_broken (end_rule b end ∷ []) ≡ found p → p ≤ length b
  end-turned end p e = by_test (ltb end (length b)) refl
    where
      by_test : (t : Bool) → ltb end (length b) ≡ t → p ≤ length b
      by_test true h =
          let s : end ≡ p = found-same (sym (first_one (end_rule b end) [] h) ∙ e) in
          omega (arith, ltb-true end (length b) h)
      by_test false h = absurd (none-not-found p (sym (next_one (end_rule b end) [] h ∙ no-rule) ∙ e))

  place-in-sections : (f : Form) (p : ℕ) → first_broken (sections_rules f b) ≡ found p → p ≤ length b
  place-in-sections f p e =
      let t : ToTheEnd 0 (sections_rules f b) = sections-in-turn f in
      ⊎_elim (λ l. l) (λ l. end-turned t.end p l)
      (turned 0 t.end t.fields (end_rule b t.end ∷ []) p (omega arith) t.in-turn (ap first_broken (sym t.split) ∙ e))

-- ---- and it has the lowest place of the broken ones

-- places do not fall, from a place on
unfoldable pub InOrder : ℕ → List Rule → Type 0
InOrder at [] = 0 ≤ 0
InOrder at (r ∷ rs) = (at ≤ r.place) × InOrder r.place rs

pub later-order : (at before : ℕ) (rs : List Rule) → before ≤ at → InOrder at rs → InOrder before rs
unfolding InOrder
later-order at before [] l o = omega arith
later-order at before (r ∷ rs) l o = (omega (arith, o.0), o.1)

turns-in-order : (b : List ℕ) (at end : ℕ) (rs : List Rule) → InTurn b at end rs → InOrder at (rs ++ (end_rule b end ∷ []))
unfolding InTurn InOrder
turns-in-order b at end [] t = (omega arith, omega arith)
turns-in-order b at end (r ∷ rs) t =
    (omega (arith, t.0), later-order (at + 4) r.place (rs ++ (end_rule b end ∷ [])) (omega (arith, t.0)) (turns-in-order b (at + 4) end rs t.1.1))

order-behind : (n at : ℕ) (rs : List Rule) → InOrder at rs → InOrder (n + at) (behind n rs)
unfolding InOrder behind
order-behind n at [] o = omega arith
order-behind n at (r ∷ rs) o = (omega (arith, o.0), order-behind n r.place rs o.1)

-- a broken rule is not before p
abbrev pub NotBefore : ℕ → Rule → Type 0
NotBefore p r = r.broken ≡ true → p ≤ r.place

-- ---- of a file, its number included

found-behind : (n : ℕ) (rs : List Rule) (p : ℕ) → first_broken (behind n rs) ≡ found p → (q : ℕ) × (first_broken rs ≡ found q) × (n + q ≡ p)
unfolding behind
found-behind n [] p e = absurd (none-not-found p (sym no-rule ∙ e))
found-behind n (r ∷ rs) p e = by_test r.broken refl (λ i. found-behind n rs p i)
  where
    moved : Rule
    moved = record { place = n + r.place; broken = r.broken }

    by_test : (t : Bool) → r.broken ≡ t → (first_broken (behind n rs) ≡ found p → (q : ℕ) × (first_broken rs ≡ found q) × (n + q ≡ p))
        → (q : ℕ) × (first_broken (r ∷ rs) ≡ found q) × (n + q ≡ p)
    by_test true h later = (r.place, first_one r rs h, found-same (sym (first_one moved (behind n rs) h) ∙ e))
    by_test false h later =
        let f = later (sym (next_one moved (behind n rs) h) ∙ e) in
        (f.0, next_one r rs h ∙ f.1, f.2)

module _ (b : List ℕ) where
  number-inside : before_sections b ≤ length b
  unfolding before_sections
  number-inside = by_test (has_number b) refl
    where
      by_test : (t : Bool) → has_number b ≡ t → pick t number_bytes 0 ≤ length b
      by_test true h = number-is-whole b h
      by_test false h = omega arith

  place-in-file : (p : ℕ) → bad_place b ≡ found p → p ≤ length b
  unfolding bad_place file_rules sections
  place-in-file p e =
      let f = found-behind (before_sections b) (sections_rules (form_in b) (sections b)) p e in
      let l : f.0 ≤ length (sections b) = place-in-sections (sections b) (form_in b) f.0 f.1 in
      let d : length (sections b) ≡ length b - before_sections b = length-drop (before_sections b) b in
      omega (arith, f.2, number-inside)

  pub rules-in-order : InOrder (before_sections b) (file_rules b)
  unfolding file_rules
  rules-in-order =
      let t : ToTheEnd (sections b) 0 (sections_rules (form_in b) (sections b)) = sections-in-turn (sections b) (form_in b) in
      later-order (before_sections b + 0) (before_sections b) (behind (before_sections b) (sections_rules (form_in b) (sections b))) (omega arith)
      (order-behind (before_sections b) 0 (sections_rules (form_in b) (sections b))
      (subst (InOrder 0) (sym t.split) (turns-in-order (sections b) 0 t.end t.fields t.in-turn)))

-- of the call
module _ (s : State) (b : List ℕ) (e : (call_load s b).answer ≡ bad_file) where
  pub its-place : bad_place b ≡ found (call_load s b).place
  its-place = first-is-bad b (call_load s b).place ((refused-exactly s b).0 e)

  pub reported-place-is-in-the-file : (call_load s b).place ≤ length b
  reported-place-is-in-the-file = place-in-file b (call_load s b).place its-place
