-- Saving and loading of two devices that are the same desk: the same answer, the same bytes, and the same desk after it. Assumes nothing.
use Rattle.std.specs.Prelude.{◌≡◌, true, false, ◌||◌}
use Rattle.std.proofs.Math.Path.{refl, ap}
use Rattle.std.proofs.Common.{sym, ◌∙◌, ⊎_elim, arith}
use Rattle.std.proofs.Math.Bool.{Bool}
use mathlib.Core.List.{List, [], ◌∷◌}
use Prim.Native.Nat.{ℕ}
use Rattle.rules.specs.Lists.{lookup}
use Rattle.rules.specs.Lists.Found.{found}
use Rattle.rules.specs.Packets.{handle_of}
use Rattle.rules.specs.Saved.{is_other_name, other_name_among}
use Rattle.rules.specs.Loaded.{Loaded}
use Rattle.rules.specs.declared.Resource.{Resource}
use Rattle.rows.specs.Keys.{same_or_not, Once, lookup-nil, lookup-here, lookup-later}
use Rattle.promises_of_packets.specs.Names.{none-not-found, found-same}
use Rattle.promises_of_same_desks.specs.Maps.{SameMap, once-later, first_alone}
use Rattle.promises_of_same_desks.specs.Desks.{SameDesk}

-- ---- whether a second name is live

true-or-not : (a b : Bool) → (a ≡ true → b ≡ true) → (b ≡ true → a ≡ true) → a ≡ b
true-or-not true b f g = sym (f refl)
true-or-not false true f g = g refl
true-or-not false false f g = refl

-- one that is found is among them
found_among : (k : ℕ) (rs : List Resource) (x : Resource) → lookup handle_of k rs ≡ found x → is_other_name x ≡ true → other_name_among rs ≡ true
unfolding other_name_among
found_among k [] x e h = absurd (none-not-found x (sym (lookup-nil handle_of k) ∙ e))
found_among k (r ∷ rs) x e h =
    ⊎_elim
    (λ q. let same : r ≡ x = found-same (sym (lookup-here handle_of k r rs q) ∙ e) in left (is_other_name r) (other_name_among rs) (ap is_other_name same ∙ h))
    (λ q. right (is_other_name r) (other_name_among rs) (found_among k rs x (sym (lookup-later handle_of k r rs q) ∙ e) h))
    (same_or_not r.handle k)
  where
    left : (a b : Bool) → a ≡ true → a || b ≡ true
    left a b e = rw e

    right : (a b : Bool) → b ≡ true → a || b ≡ true
    right true b e = refl
    right false b e = e

-- and one of them is found
pub record OtherName (rs : List Resource) : Type 0 where
  pub key : ℕ
  pub what : Resource
  pub here : lookup handle_of key rs ≡ found what
  pub other : is_other_name what ≡ true

among-found : (rs : List Resource) → Once handle_of rs → other_name_among rs ≡ true → OtherName rs
unfolding other_name_among
among-found [] o e = absurd (let z : ◌≡◌ {A = ℕ} 0 1 = cc in omega arith)
among-found (r ∷ rs) o e = by_first (is_other_name r) refl e (among-found rs (once-later handle_of r rs o))
  where
    by_first : (b : Bool) → is_other_name r ≡ b → b || other_name_among rs ≡ true → (other_name_among rs ≡ true → OtherName rs) → OtherName (r ∷ rs)
    by_first true h i later = record { key = r.handle; what = r; here = lookup-here handle_of r.handle r rs refl; other = h }
    by_first false h i later =
        let m : OtherName rs = later i in
        record {
          key = m.key;
          what = m.what;
          here =
              lookup-later handle_of m.key r rs (λ q. none-not-found m.what (sym (first_alone handle_of r rs o) ∙ (ap (λ n. lookup handle_of n rs) q ∙ m.here)))
              ∙ m.here;
          other = m.other;
        }

module _ (rs qs : List Resource) (o : Once handle_of rs) (p : Once handle_of qs) (same : SameMap handle_of rs qs) where
  pub other-name-same : other_name_among rs ≡ other_name_among qs
  other-name-same =
      true-or-not (other_name_among rs) (other_name_among qs)
      (λ e. let m : OtherName rs = among-found rs o e in found_among m.key qs m.what (sym (same m.key) ∙ m.here) m.other)
      (λ e. let m : OtherName qs = among-found qs p e in found_among m.key rs m.what (same m.key ∙ m.here) m.other)

-- ---- loading

pub record SameLoaded (l m : Loaded) : Type 0 where
  pub answer : l.answer ≡ m.answer
  pub place : l.place ≡ m.place
  pub state : SameDesk l.state m.state
