-- The theorems of specs/Places.antt, and what they rest on. Assumes nothing.
use Rattle.std.specs.Prelude.{◌≡◌, Bool}
use Rattle.std.proofs.Math.Path.{refl, subst}
use Rattle.std.proofs.Common.{sym, ◌∙◌}
use Rattle.std.proofs.Math.Bool.{true, false}
use mathlib.Core.List.{List, [], ◌∷◌}
use Prim.Native.Nat.{ℕ, ◌<◌}
use native.Mathlib.Omega.{arith}
use Rattle.std.proofs.Math.ListN.{length}
use Rattle.rules.specs.Lists.Found.{found}
use Rattle.rules.specs.State.{State}
use Rattle.rules.specs.Numbers.{bad_file}
use Rattle.rules.specs.Loaded.{Rule, first_broken, before_sections, file_rules, bad_place, call_load}
use Rattle.promises_of_packets.specs.Names.{found-same, true-not-false}
use Rattle.promises_of_packets.specs.Held.{Every, every-none}
use Rattle.promises_of_saving.specs.FirstBroken.{first_one, next_one}
use Rattle.promises_of_saving.specs.Places.{InOrder, NotBefore, its-place, later-order, rules-in-order}

-- ---- and it has the lowest place of the broken ones

all-later : (at : ℕ) (rs : List Rule) → InOrder at rs → Every (NotBefore at) rs
unfolding InOrder Every
all-later at [] o = every-none (NotBefore at)
all-later at (r ∷ rs) o = (λ e. o.0, all-later at rs (later-order r.place at rs o.0 o.1))

lowest-first : (at : ℕ) (rs : List Rule) (p : ℕ) → InOrder at rs → first_broken rs ≡ found p → Every (NotBefore p) rs
unfolding InOrder Every
lowest-first at [] p o e = every-none (NotBefore p)
lowest-first at (r ∷ rs) p o e = by_test r.broken refl (λ i. lowest-first r.place rs p o.1 i)
  where
    by_test : (t : Bool) → r.broken ≡ t → (first_broken rs ≡ found p → Every (NotBefore p) rs) → NotBefore p r × Every (NotBefore p) rs
    by_test true h later =
        let s : r.place ≡ p = found-same (sym (first_one r rs h) ∙ e) in
        (λ i. omega arith, subst (λ k. Every (NotBefore k) rs) s (all-later r.place rs o.1))
    by_test false h later = (λ i. absurd (true-not-false (sym i ∙ h)), later (sym (next_one r rs h) ∙ e))

-- ---- of a file, its number included

-- of the call
module _ (s : State) (b : List ℕ) (e : (call_load s b).answer ≡ bad_file) where
  pub reported-place-is-the-lowest : Every (NotBefore (call_load s b).place) (file_rules b)
  unfolding bad_place
  reported-place-is-the-lowest = lowest-first (before_sections b) (file_rules b) (call_load s b).place (rules-in-order b) (its-place s b e)
