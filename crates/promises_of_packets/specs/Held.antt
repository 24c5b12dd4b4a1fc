-- What is true of a submission's resources, records, target and tokens, whatever packets came: names are non-zero and each once, at most 64 of
-- them and of records, every resource is as create leaves it, every record of a range lies inside the one entry with its id, the target is a
-- live texture, and names and tokens are sound (SoundNames.antt). Assumes nothing.
use Rattle.std.specs.Prelude.{◌≡◌, Bool, ◌||◌, nat_abs, take, drop, Err, Ok}
use Rattle.std.proofs.Math.Path.{refl, ap, subst}
use Rattle.std.proofs.Common.{sym, ◌∙◌}
use Rattle.std.proofs.Math.Bool.{true, false}
use mathlib.Core.List.{List, [], ◌∷◌, ◌++◌}
use Rattle.std.proofs.Math.Logic.{⊎_elim}
use Prim.Native.Nat.{ℕ, zero, suc, ◌+◌, ◌-◌, ◌≤◌}
use native.Mathlib.Omega.{arith}
use Rattle.std.proofs.Math.Dec.{eqb}
use Rattle.std.proofs.Math.ListN.{length}
use Rattle.machine.specs.Machine.{pick}
use Rattle.rules.specs.Numbers.{most, backs, clips}
use Rattle.rules.specs.Lists.{Found, lookup, index_of, over, pushed, removed}
use Rattle.rules.specs.Lists.Found.{none, found}
use Rattle.rules.specs.Table.{matching}
use Rattle.rules.specs.StatePackets.{begins, common, rectangle, unless_empty, clip_of}
use Rattle.rules.specs.Names.{renamed, rename}
use Rattle.rules.specs.Judging.{Verdict}
use Rattle.rules.specs.Packets.{Holdings, at_first, left_by, handle_of, live, shape_in, live_texture, Progress, Belongings, Passed}
use Rattle.rules.specs.declared.Entry.{Entry}
use Rattle.rules.specs.declared.Resource.{Resource}
use Rattle.rules.specs.declared.Record.{Record}
use Rattle.rules.specs.declared.Shape.{Shape}
use Rattle.rules.specs.declared.SetScissor.{SetScissor}
use Rattle.rules.specs.declared.Refusal.{Refusal}
use Rattle.rows.specs.Keys.{same_or_not, lookup-here, lookup-later, Once, lookup-nil}
use Rattle.rule_laws.specs.Created.{AsCreated}
use Rattle.promises_of_packets.specs.Effects.{created-by-any-name}
use Rattle.promises_of_packets.specs.Names.{none-not-found, found-same, in_found, moved}
use Rattle.promises_of_packets.specs.SoundNames.{SoundNames, SoundTokens}

-- ---- every member of a list

module _ {A : Type 0} (P : A → Type 0) where
  unfoldable pub Every : List A → Type 0
  Every [] = 0 ≤ 0
  Every (x ∷ xs) = P x × Every xs

  pub every-none : Every []
  unfolding Every
  every-none = omega arith

  pub every-both : (xs ys : List A) → Every xs → Every ys → Every (xs ++ ys)
  unfolding Every
  every-both [] ys h k = k
  every-both (x ∷ xs) ys h k = (h.0, every-both xs ys h.1 k)

  pub every_front : (xs ys : List A) → Every (xs ++ ys) → Every xs
  unfolding Every
  every_front [] ys h = every-none
  every_front (x ∷ xs) ys h = (h.0, every_front xs ys h.1)

  pub every_back : (xs ys : List A) → Every (xs ++ ys) → Every ys
  unfolding Every
  every_back [] ys h = h
  every_back (x ∷ xs) ys h = every_back xs ys h.1

  every_take : (n : ℕ) (xs : List A) → Every xs → Every (take n xs)
  unfolding Every
  every_take zero xs h = omega arith
  every_take (suc n) [] h = h
  every_take (suc n) (x ∷ xs) h = (h.0, every_take n xs h.1)

  every_drop : (n : ℕ) (xs : List A) → Every xs → Every (drop n xs)
  unfolding Every
  every_drop zero xs h = h
  every_drop (suc n) [] h = h
  every_drop (suc n) (x ∷ xs) h = every_drop n xs h.1

  pub every-pushed : (xs : List A) (x : A) → Every xs → P x → Every (pushed xs x)
  unfolding Every
  every-pushed xs x h p = every-both xs (x ∷ []) h (p, every-none)

  every-over : (at : ℕ) (b m : List A) → Every b → Every m → Every (over at b m)
  unfolding over
  every-over at b m h k = every-both (take at m) _ (every_take at m k) (every-both b _ h (every_drop (at + length b) m k))

  -- what is found is one of them
  pub every-found : (key : A → ℕ) (k : ℕ) (xs : List A) (x : A) → lookup key k xs ≡ found x → Every xs → P x
  unfolding Every
  every-found key k [] x e h = absurd (none-not-found x (sym (lookup-nil key k) ∙ e))
  every-found key k (y ∷ ys) x e h =
      ⊎_elim
      (λ q. subst P (found-same (sym (lookup-here key k y ys q) ∙ e)) h.0)
      (λ q. every-found key k ys x (sym (lookup-later key k y ys q) ∙ e) h.1)
      (same_or_not (key y) k)

  pub every_removed : (i : ℕ) (xs : List A) → Every xs → Every (removed i xs)
  unfolding removed
  every_removed i xs h = every_take (length xs - 1) _ (every-over i (drop (length xs - 1) xs) xs (every_drop (length xs - 1) xs h) h)

-- ---- records

-- a record lies inside an entry
abbrev pub Within : Record → Found Entry → Type 0
Within c none = ⊥
Within c (found e) = (e.gpa ≤ c.gpa) × (c.gpa + c.length ≤ e.gpa + e.size)

-- and that entry is the one with its id. "Demand 2's ranges mean kinds 1 to 3": a clipped rectangle, of kind 4, is no range of memory.
abbrev pub Inside : List Entry → Record → Type 0
Inside es c = (c.kind ≡ clips → ⊥) → Within c (matching c.id es)

-- a record is of one of the four kinds
abbrev pub OfAKind : Record → Type 0
OfAKind c = (backs ≤ c.kind) × (c.kind ≤ clips)

-- a clipped rectangle is of the fourth
empty-or-not : (left top width height : ℕ) → (unless_empty left top width height).kind ≡ clips
empty-or-not left top width height = by_test (eqb width 0 || eqb height 0)
  where
    by_test : (b : Bool) → (pick b (rectangle 0 0 0 0) (rectangle left top width height)).kind ≡ clips
    by_test true = refl
    by_test false = refl

pub clip-kind : (s : Shape) (c : SetScissor) → (clip_of s c).kind ≡ clips
unfolding clip_of
clip-kind s c = empty-or-not (begins c.x) (begins c.y) (common c.x (nat_abs c.width) s.width) (common c.y (nat_abs c.height) s.height)

-- ---- resources

pub record SoundResources (rs : List Resource) : Type 0 where
  -- at most 64 names are live
  pub few : length rs ≤ most
  -- no name is live twice
  pub once : Once handle_of rs
  -- none is 0
  pub some : lookup handle_of 0 rs ≡ none
  -- each is as create leaves it: its shape and pitch good, its bytes those of its kind
  pub created : Every AsCreated rs
  -- which of them are one resource
  pub names : SoundNames rs

-- what a device has of its own
pub record SoundBelongings (b : Belongings) : Type 0 where
  pub resources : SoundResources b.resources
  pub tokens : SoundTokens b.resources b.tokens

pub record SoundHoldings (es : List Entry) (h : Holdings) : Type 0 where
  pub resources : SoundResources h.resources
  pub few : length h.records ≤ most
  pub inside : Every (Inside es) h.records
  pub kinds : Every OfAKind h.records

-- ---- the target

-- a handle is a live texture's
abbrev pub LiveTexture : ℕ → Holdings → Type 0
LiveTexture k h = (s : Shape) × (live_texture k h ≡ found s)

-- 0 stands for none; any other target is a live texture
abbrev pub TargetLives : Progress → Type 0
TargetLives h = (h.target ≡ 0 → ⊥) → LiveTexture h.target h.holdings

pub record SoundProgress (es : List Entry) (h : Progress) : Type 0 where
  pub holdings : SoundHoldings es h.holdings
  pub target : TargetLives h
  pub tokens : SoundTokens h.holdings.resources h.tokens

-- ---- a live texture is live, and is the same texture where the same is live

module _ (k : ℕ) where
  pub texture-same : (g h : Holdings) → live k g ≡ live k h → live_texture k g ≡ live_texture k h
  unfolding live_texture
  texture-same g h e = ap (λ (f : Found Resource). pick (eqb k 0) none (shape_in f)) e

  -- nor does it matter which name of its resource is the lowest
  pub texture-moved : (old new : ℕ) (g h : Holdings) → live k g ≡ in_found (moved old new) (live k h) → live_texture k g ≡ live_texture k h
  unfolding live_texture
  texture-moved old new g h e = ap (λ (f : Found Resource). pick (eqb k 0) none (shape_in f)) e ∙ by_found (live k h)
    where
      by_found : (f : Found Resource) → pick (eqb k 0) none (shape_in (in_found (moved old new) f)) ≡ pick (eqb k 0) none (shape_in f)
      by_found none = refl
      by_found (found r) = refl

  module _ (h : Holdings) (s : Shape) where
    -- its handle is not 0, and names a resource
    pub texture-some : live_texture k h ≡ found s → (eqb k 0 ≡ false) × (live k h ≡ none → ⊥)
    unfolding live_texture
    texture-some = by_test (eqb k 0) refl
      where
        by_test : (b : Bool) → eqb k 0 ≡ b → pick b none (shape_in (live k h)) ≡ found s → (b ≡ false) × (live k h ≡ none → ⊥)
        by_test true t e = absurd (none-not-found s e)
        by_test false t e = (refl, λ z. none-not-found s (sym (ap shape_in z) ∙ e))

-- ---- another lowest name is nothing to all this

pub every-renamed : (old new : ℕ) (rs : List Resource) → Every AsCreated rs → Every AsCreated (rename old new rs)
unfolding Every rename
every-renamed old new [] h = h
every-renamed old new (r ∷ rs) h = (created-by-any-name r.handle (renamed old new r.lowest) r h.0, every-renamed old new rs h.1)

-- ---- kept by every packet

module _ (es : List Entry) (h : Progress) (s : SoundProgress es h) where
  abbrev pub held : Holdings
  held = h.holdings

  abbrev pub sound : SoundHoldings es held
  sound = s.holdings

  module _ (k : ℕ) (r : Resource) (e : live k held ≡ found r) where
    abbrev pub place : ℕ
    place = index_of handle_of k held.resources

  -- ---- the target: a create makes no handle anew that is live, and a destroy of the target's handle ends it

  abbrev pub SoundAfter : Passed → Type 0
  SoundAfter o = SoundProgress es o.held

-- ---- a packet that is refused changes neither resources nor records, and leaves the target and the tokens

abbrev pub KeepsIfBroken : Progress → Passed → Type 0
KeepsIfBroken h o = (r : Refusal) → o.verdict ≡ Err r → o.held ≡ h

pub fine-not-broken : (r : Refusal) → ◌≡◌ {A = Verdict} (Ok tt) (Err r) → ⊥
fine-not-broken r e = let z : ◌≡◌ {A = ℕ} 0 1 = cc in omega arith
