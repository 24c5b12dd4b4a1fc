-- The parts of a device that a file's sections say: "live resources by rising handle", "each of which stands under its lowest name", other names, and
-- tokens. Each is as the rules of a file ask, and together they say what the device has. Assumes nothing.
use Rattle.std.specs.Prelude.{◌≡◌, refl, Bool, true, false, not, List, [], ◌∷◌, ℕ, eqb}
use Rattle.std.proofs.Common.{sym, arith, eqb-true, eq-eqb}
use Rattle.std.proofs.lemmas.Bool.{eqb-false, not-true}
use Rattle.rules.specs.Lists.Found.{none, found}
use Rattle.rules.specs.State.{State}
use Rattle.rules.specs.declared.Resource.{Resource}
use Rattle.rules.specs.Saved.{is_other_name, is_lowest_name}
use Rattle.promises_of_packets.specs.Held.{Every, every-none}
use Rattle.promises_of_saving.specs.Those.{if_passed}
use Rattle.promises_of_saving.specs.LoadedResources.{OneName}
use Rattle.promises_of_saving.specs.Savable.{Savable}

-- ---- a resource under its lowest name, or under another

pub own-is-lowest : (r : Resource) → OneName r → is_lowest_name r ≡ true
own-is-lowest r e = rw (eq-eqb r.handle r.lowest (sym e))

pub all-lowest : (rs : List Resource) → Every OneName rs → Every (λ r. is_lowest_name r ≡ true) rs
unfolding Every
all-lowest [] h = every-none (λ r. is_lowest_name r ≡ true)
all-lowest (r ∷ rs) h = (own-is-lowest r h.0, all-lowest rs h.1)

pub lowest-is-own : (r : Resource) → is_lowest_name r ≡ true → OneName r
lowest-is-own r = by_test (eqb r.handle r.lowest) refl
  where
    by_test : (t : Bool) → eqb r.handle r.lowest ≡ t → not (not t) ≡ true → OneName r
    by_test true e h = sym (eqb-true r.handle r.lowest e)
    by_test false e h = absurd (let z : ◌≡◌ {A = ℕ} 0 1 = cc in omega arith)

pub other-is-not-own : (r : Resource) → is_other_name r ≡ true → r.handle ≡ r.lowest → ⊥
other-is-not-own r e = eqb-false r.handle r.lowest (not-true (eqb r.handle r.lowest) e)

pub if-lowest : (r : Resource) → OneName r → if_passed is_lowest_name (found r) ≡ found r
if-lowest r e = rw (own-is-lowest r e)

pub if-other : (r : Resource) → is_other_name r ≡ true → if_passed is_lowest_name (found r) ≡ none
if-other r e = rw e

module _ (s : State) (v : Savable s) where
  abbrev pub held : List Resource
  held = s.belongings.resources
