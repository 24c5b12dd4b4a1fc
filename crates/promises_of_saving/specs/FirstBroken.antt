-- Rules in a row, and the first that is broken: there is none exactly if every one is kept, and it is where the list says. Assumes nothing.
use Rattle.std.specs.Prelude.{◌≡◌, refl, Bool, true, false, not, ◌||◌, List, [], ◌∷◌, ◌++◌, ℕ, ◌+◌, ◌≤◌, length}
use Rattle.std.proofs.Common.{sym, ap, ◌∙◌, ltb-false, le-ltb}
use Rattle.rules.specs.Lists.Found.{none, found}
use Rattle.rules.specs.Loaded.{Rule, missing, must, first_broken, behind}
use Rattle.promises_of_packets.specs.Names.{none-not-found, found-same, true-not-false}
use Rattle.promises_of_packets.specs.Held.{Every, every-none}

abbrev pub Kept : Rule → Type 0
Kept r = r.broken ≡ false

-- "the first such field": those before it are kept
pub record FirstBroken (rules : List Rule) (place : ℕ) : Type 0 where
  pub front : List Rule
  pub rule : Rule
  pub back : List Rule
  pub split : rules ≡ front ++ (rule ∷ back)
  pub before : Every Kept front
  pub breaks : rule.broken ≡ true
  pub at : rule.place ≡ place

-- ---- it is what the rules find

pub first_one : (r : Rule) (rs : List Rule) → r.broken ≡ true → first_broken (r ∷ rs) ≡ found r.place
unfolding first_broken
first_one r rs e = rw e

pub next_one : (r : Rule) (rs : List Rule) → Kept r → first_broken (r ∷ rs) ≡ first_broken rs
unfolding first_broken
next_one r rs e = rw e

pub and_kept : (r : Rule) (rs : List Rule) → Kept r → Every Kept rs → Every Kept (r ∷ rs)
unfolding Every
and_kept r rs h k = (h, k)

pub no-rule : first_broken [] ≡ none
unfolding first_broken
no-rule = refl

after_kept : (front rest : List Rule) → Every Kept front → first_broken (front ++ rest) ≡ first_broken rest
unfolding Every
after_kept [] rest k = refl
after_kept (r ∷ rs) rest k = next_one r (rs ++ rest) k.0 ∙ after_kept rs rest k.1

pub first-is-found : (rules : List Rule) (p : ℕ) → FirstBroken rules p → first_broken rules ≡ found p
first-is-found rules p f =
    ap first_broken f.split
    ∙ (after_kept f.front (f.rule ∷ f.back) f.before ∙ (first_one f.rule f.back f.breaks ∙ ap found f.at))

pub found-is-first : (rules : List Rule) (p : ℕ) → first_broken rules ≡ found p → FirstBroken rules p
found-is-first [] p e = absurd (none-not-found p (sym no-rule ∙ e))
found-is-first (r ∷ rs) p e = by_test r.broken refl (λ h. found-is-first rs p (sym (next_one r rs h) ∙ e))
  where
    by_test : (t : Bool) → r.broken ≡ t → (Kept r → FirstBroken rs p) → FirstBroken (r ∷ rs) p
    by_test true h later =
        record { front = []; rule = r; back = rs; split = refl; before = every-none Kept; breaks = h; at = found-same (sym (first_one r rs h) ∙ e) }
    by_test false h later =
        let f : FirstBroken rs p = later h in
        record { front = r ∷ f.front; rule = f.rule; back = f.back; split = ap (λ x. r ∷ x) f.split; before = and_kept r f.front h f.before; breaks = f.breaks; at = f.at }

-- ---- none is broken exactly if all are kept

pub all-kept-none : (rules : List Rule) → Every Kept rules → first_broken rules ≡ none
unfolding Every
all-kept-none [] k = no-rule
all-kept-none (r ∷ rs) k = next_one r rs k.0 ∙ all-kept-none rs k.1

pub none-all-kept : (rules : List Rule) → first_broken rules ≡ none → Every Kept rules
unfolding Every
none-all-kept [] e = every-none Kept
none-all-kept (r ∷ rs) e = by_test r.broken refl (λ h. none-all-kept rs (sym (next_one r rs h) ∙ e))
  where
    by_test : (t : Bool) → r.broken ≡ t → (Kept r → Every Kept rs) → Kept r × Every Kept rs
    by_test true h later = absurd (none-not-found r.place (sym e ∙ first_one r rs h))
    by_test false h later = (h, later h)

-- and a broken one, wherever it stands, is not passed over
pub broken-not-none : (front : List Rule) (r : Rule) (back : List Rule) → r.broken ≡ true → first_broken (front ++ (r ∷ back)) ≡ none → ⊥
broken-not-none [] r back h e = none-not-found r.place (sym e ∙ first_one r back h)
broken-not-none (q ∷ qs) r back h e = by_test q.broken refl (λ i. broken-not-none qs r back h (sym (next_one q (qs ++ (r ∷ back)) i) ∙ e))
  where
    by_test : (t : Bool) → q.broken ≡ t → (Kept q → ⊥) → ⊥
    by_test true i later = none-not-found q.place (sym e ∙ first_one q (qs ++ (r ∷ back)) i)
    by_test false i later = later i

-- ---- rules that stand behind a number: the same ones are kept

pub kept-behind : (n : ℕ) (rs : List Rule) → Every Kept rs → Every Kept (behind n rs)
unfolding Every behind
kept-behind n [] k = every-none Kept
kept-behind n (r ∷ rs) k = (k.0, kept-behind n rs k.1)

pub kept-before : (n : ℕ) (rs : List Rule) → Every Kept (behind n rs) → Every Kept rs
unfolding Every behind
kept-before n [] k = every-none Kept
kept-before n (r ∷ rs) k = (k.0, kept-before n rs k.1)

-- ---- one rule: its field is there, and what it asks holds

module _ (b : List ℕ) (at : ℕ) (holds : Bool) where
  pub must-here : Kept (must b at holds) → at + 4 ≤ length b
  must-here = by_test (missing b at) refl
    where
      by_test : (t : Bool) → missing b at ≡ t → t || not holds ≡ false → at + 4 ≤ length b
      by_test true h e = absurd (true-not-false e)
      by_test false h e = ltb-false (length b) (at + 4) h

  pub must-holds : Kept (must b at holds) → holds ≡ true
  must-holds = by_test (missing b at) holds
    where
      by_test : (t u : Bool) → t || not u ≡ false → u ≡ true
      by_test true u e = absurd (true-not-false e)
      by_test false true e = refl
      by_test false false e = absurd (true-not-false e)

  pub must-kept : at + 4 ≤ length b → holds ≡ true → Kept (must b at holds)
  must-kept h e = rw (le-ltb (length b) (at + 4) h, e)
