-- A whole file: its sections, and what is found of them told from its first byte on. Assumes nothing.
use Rattle.std.specs.Prelude.{◌≡◌, refl, Bool, List, [], ◌∷◌, ℕ, ◌+◌, ◌-◌, ◌≤◌, ◌<◌, length, take, drop, Err, Ok}
use Rattle.std.proofs.Common.{sym, ap, subst, ◌∙◌, arith, rules, length-drop, take_all}
use Rattle.std.proofs.Math.Bool.{true, false}
use Rattle.machine.specs.Machine.{pick}
use Rattle.rules.specs.Lists.{Found}
use Rattle.rules.specs.Lists.Found.{none, found}
use Rattle.rules.specs.Loaded.{Rule, first_broken, form_in, has_number, before_sections, sections, sections_rules, behind, file_rules, bad_place}
use Rattle.saved_fields.specs.Judging.{checked, judged-first, FileCheck}
use Rattle.rules.specs.declared.Form.{Form}
use Rattle.saved_check.specs.Near.{Near, near-sections}

-- a place told from so many bytes before
abbrev moved : ℕ → Found ℕ → Found ℕ
moved n none = none
moved n (found place) = found (n + place)

first-behind : (n : ℕ) (rs : List Rule) → first_broken (behind n rs) ≡ moved n (first_broken rs)
unfolding first_broken behind
first-behind n [] = refl
first-behind n (r ∷ rs) = by r.broken (first-behind n rs)
  where
    by : (v : Bool) → first_broken (behind n rs) ≡ moved n (first_broken rs)
        → pick v (found (n + r.place)) (first_broken (behind n rs)) ≡ moved n (pick v (found r.place) (first_broken rs))
    by true later = refl
    by false later = later

-- the rules of the sections tell the file's first broken one
pub in-sections : (b : List ℕ) → bad_place b ≡ moved (before_sections b) (first_broken (sections_rules (form_in b) (sections b)))
unfolding bad_place file_rules
in-sections b = first-behind (before_sections b) (sections_rules (form_in b) (sections b))

-- where the file is good, so are its sections
pub sections-good : (b : List ℕ) → checked (bad_place b) ≡ Ok tt → checked (first_broken (sections_rules (form_in b) (sections b))) ≡ Ok tt
sections-good b e = by (first_broken (sections_rules (form_in b) (sections b))) (ap checked (sym (in-sections b)) ∙ e)
  where
    by : (x : Found ℕ) → checked (moved (before_sections b) x) ≡ Ok tt → checked x ≡ Ok tt
    by none h = refl
    by (found place) h = cc

-- the part of the file behind its number
pub sections-part : (b : List ℕ) (n : ℕ) → n ≡ before_sections b → n ≤ length b → take (length b - n) (drop n b) ≡ sections b
unfolding sections
sections-part b n before room =
    let left : length (drop n b) ≡ length b - n = length-drop n b in
    take_all (length b - n) (drop n b) (omega arith) ∙ ap (λ k. drop k b) before

-- ---- check_file

module _ (b : List ℕ) (n : ℕ) (f : Form) (c : FileCheck) (before : n ≡ before_sections b) (room : n ≤ length b) (form : f ≡ form_in b)
    (is : c ≡ checked (first_broken (sections_rules f (take (length b - n) (drop n b))))) where
  abbrev broken : Found ℕ
  broken = first_broken (sections_rules (form_in b) (sections b))

  told : c ≡ checked broken
  told = is ∙ (ap (λ x. checked (first_broken (sections_rules f x))) (sections-part b n before room) ∙ ap (λ x. checked (first_broken (sections_rules x (sections b)))) form)

  whole : checked (moved n broken) ≡ checked (bad_place b)
  whole = ap (λ k. checked (moved k broken)) before ∙ ap checked (sym (in-sections b))

  pub no_number : n ≡ 0 → c ≡ checked (bad_place b)
  no_number z = told ∙ (by broken ∙ whole)
    where
      by : (x : Found ℕ) → checked x ≡ checked (moved n x)
      by none = refl
      by (found place) =
          let same : place ≡ n + place = omega arith in
          ap Err same

  pub good-behind : c ≡ Ok tt → c ≡ checked (bad_place b)
  good-behind e = by broken (sym told ∙ e) ∙ whole
    where
      by : (x : Found ℕ) → checked x ≡ Ok tt → c ≡ checked (moved n x)
      by none h = e
      by (found place) h = cc

  -- a number has four bytes
  four : (n ≡ 0 → ⊥) → n ≡ 4
  unfolding before_sections
  four some = by (has_number b) before
    where
      by : (v : Bool) → n ≡ pick v 4 0 → n ≡ 4
      by true h = h
      by false h = absurd (some h)

  module _ (p : ℕ) (bad : c ≡ Err p) where
    pub bad-behind : (n ≡ 0 → ⊥) → Err (p + 4) ≡ checked (bad_place b)
    bad-behind some = by broken (sym told ∙ bad) ∙ whole
      where
        by : (x : Found ℕ) → checked x ≡ Err p → Err (p + 4) ≡ checked (moved n x)
        by none h = cc
        by (found place) h =
            let same : place ≡ p = cc in
            let here : p + 4 ≡ n + place = omega (arith, four some) in
            ap Err here

    near : p ≤ 6760
    near = subst Near (judged-first (sections_rules (form_in b) (sections b)) ∙ (sym told ∙ bad)) (near-sections (form_in b) (sections b))

    pub place-fits : p + 4 < 4294967296
    place-fits = omega (arith, near)

pub ruleset judging_file = (no_number, good-behind, bad-behind, place-fits, rules)
