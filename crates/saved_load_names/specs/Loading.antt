-- What the loading of other names asks: each is of one of the resources before them, which stay as they are. Assumes nothing.
use Rattle.std.specs.Prelude.{◌≡◌, refl, Option, Some, None, IsSome, List, [], ◌∷◌, ◌++◌, ℕ, zero, suc, ◌+◌, ◌*◌, ◌≤◌, ◌<◌, length, take}
use Rattle.std.proofs.Common.{sym, ap, ◌∙◌, append_assoc, append-nil, add-zero, suc-add, arith, rules, take_at}
use Rattle.rules.specs.Numbers.{most}
use Rattle.rules.specs.Lists.{Found, index_of, lookup, pushed}
use Rattle.rules.specs.Lists.Found.{none, found}
use Rattle.rules.specs.Layouts.{word}
use Rattle.rules.specs.Packets.{handle_of}
use Rattle.rules.specs.declared.Resource.{Resource}
use Rattle.rows.specs.Rows.{row_at, table-take, length-table}
use Rattle.rows.specs.Keys.{place_of}
use Rattle.kept_resources.specs.Views.{resource_of_row, resources_of}
use Rattle.kept_resources.specs.Resources.{resource-exists, resource-found, resource-missing}
use Rattle.rules.specs.Saved.{name_bytes}
use Rattle.rules.specs.Loaded.{named, loaded_names}
use Rattle.saved_fields.specs.Good.{IsFound}

-- each of so many other names, the first of which stands at this place, is of one of these resources
abbrev pub NamesFound : ℕ → List Resource → List ℕ → ℕ → Type 0
NamesFound n rs b start = (i : ℕ) → i < n → IsFound (lookup handle_of (word b (start + name_bytes * i + 4)) rs)

-- ---- name_at

module _ (l b : List ℕ) (live at k : ℕ) (e : k ≡ word b (at + 4)) (o : Option ℕ) (place : o ≡ place_of handle_of k (resources_of live l)) where
  -- the lowest name has a row
  pub row-known : IsFound (lookup handle_of (word b (at + 4)) (resources_of live l)) → IsSome o
  row-known known = by o place
    where
      by : (o' : Option ℕ) → o' ≡ place_of handle_of k (resources_of live l) → IsSome o'
      by (Some i) p = refl
      by None p =
          let gone : lookup handle_of (word b (at + 4)) (resources_of live l) ≡ none = rw (sym e) (resource-missing live k l None p refl) in
          absurd (rw gone at known)

  module _ (i : ℕ) (here : o ≡ Some i) where
    pub row-there : live ≤ most → i < most
    row-there few = resource-exists live k l o place i here few

    pub says-name : (n : ℕ) (r : Resource) → n ≡ word b at → r ≡ resource_of_row (row_at 12 l i)
        → named (word b at) (lookup handle_of (word b (at + 4)) (resources_of live l))
        ≡ record { handle = n; kind = r.kind; bytes = r.bytes; pitch = r.pitch; backing = r.backing; offset = r.offset; lowest = r.lowest } ∷ []
    says-name n r f g =
        let it : lookup handle_of (word b (at + 4)) (resources_of live l) ≡ found (resource_of_row (row_at 12 l i)) = rw (sym e) (resource-found live k l o place i here) in
        rw (it, f, g)

pub ruleset saying = (row-known, row-there, says-name, rules)

-- ---- load_names

-- one more, after those before it
one_more : (n : ℕ) (rs : List Resource) (b : List ℕ) (at : ℕ)
    → loaded_names (n + 1) rs b at ≡ loaded_names n rs b at ++ named (word b (at + 8 * n)) (lookup handle_of (word b (at + 8 * n + 4)) rs)
unfolding loaded_names
one_more zero rs b at = rw (add-zero, append-nil)
one_more (suc n) rs b at =
    let far : at + 8 * suc n ≡ at + 8 + 8 * n = omega arith in
    rw (suc-add, far)
    (ap (λ names. named (word b at) (lookup handle_of (word b (at + 4)) rs) ++ names) (one_more n rs b (at + 8))
    ∙ sym (append_assoc (named (word b at) (lookup handle_of (word b (at + 4)) rs)) (loaded_names n rs b (at + 8)) (named (word b (at + 8 + 8 * n)) (lookup handle_of (word b (at + 8 + 8 * n + 4)) rs))))

-- the rows before those that were added
front_kept : (live n : ℕ) (l : List ℕ) (rs names : List Resource) → length rs ≡ live → resources_of (live + n) l ≡ rs ++ names → resources_of live l ≡ rs
front_kept live n l rs names size e =
    sym (table-take resource_of_row 12 live (live + n) l (omega arith)) ∙ ap (take live) e ∙ take_at rs names live size

module _ (b l₀ : List ℕ) (start live : ℕ) where
  abbrev before : List Resource
  before = resources_of live l₀

  pub names-start : resources_of (live + 0) l₀ ≡ before ++ loaded_names 0 before b start
  unfolding loaded_names
  names-start = rw (add-zero, append-nil)

  module _ (n at : ℕ) (l : List ℕ) (here : at ≡ start + 8 * n) (inv : resources_of (live + n) l ≡ before ++ loaded_names n before b start) where
    same-front : resources_of live l ≡ before
    same-front = front_kept live n l before (loaded_names n before b start) (length-table resource_of_row 12 live l₀) inv

    pub name-known : (count : ℕ) → n < count → NamesFound count before b start → IsFound (lookup handle_of (word b (at + 4)) (resources_of live l))
    name-known count h known = rw (same-front, here) (known n h)

    pub names-turn : (l' : List ℕ) (r : Resource) → named (word b at) (lookup handle_of (word b (at + 4)) (resources_of live l)) ≡ r ∷ []
        → resources_of (live + n + 1) l' ≡ pushed (resources_of (live + n) l) r
        → resources_of (live + (n + 1)) l' ≡ before ++ loaded_names (n + 1) before b start
    names-turn l' r e f =
        let next : live + (n + 1) ≡ live + n + 1 = omega arith in
        let it : named (word b (start + 8 * n)) (lookup handle_of (word b (start + 8 * n + 4)) before) ≡ r ∷ [] = rw (here, same-front) at e in
        rw next (f ∙ rw (inv, one_more n before b start, it) (append_assoc before (loaded_names n before b start) (r ∷ [])))

  pub names-end : (count n : ℕ) (l : List ℕ) → n ≤ count → count ≤ n → resources_of (live + n) l ≡ before ++ loaded_names n before b start
      → resources_of (live + count) l ≡ before ++ loaded_names count before b start
  names-end count n l h k inv =
      let same : count ≡ n = omega arith in
      rw same inv

pub ruleset loading_names = (names-start, name-known, names-turn, names-end, rules)
