-- What storing, removing and copying resources asks: a law for each way to a return. Assumes nothing.
use Rattle.std.specs.Prelude.{◌≡◌, refl, List, [], ◌∷◌, ℕ, suc, ◌+◌, ◌*◌, ◌-◌, ◌≤◌, ◌<◌, length, set, take}
use Rattle.std.proofs.Common.{sym, ap, ◌∙◌, mod-eq_of_lt, arith, rules}
use Rattle.std.proofs.Math.Numerals.{towards_suc}
use Rattle.rules.specs.Numbers.{most}
use Rattle.rules.specs.Lists.{over, pushed, removed}
use Rattle.rules.specs.declared.Kind.{Kind}
use Rattle.rules.specs.declared.Kind.TheVariants.{Buffer, Texture}
use Rattle.rules.specs.declared.Shape.{Shape}
use Rattle.rules.specs.declared.Resource.{Resource}
use Rattle.rows.specs.Rows.{row_at, table-push-sets, table-remove, table-copied}
use Rattle.kept_resources.specs.Views.{flat_kind, resource_of_row, resources_of}

-- ---- flat, push_resource

pub flat-buffer : (k : Kind) → k ≡ Buffer → Buffer ≡ k
flat-buffer k e = sym e

pub flat-texture : (k : Kind) (s : Shape) (f w h m y : ℕ) → k ≡ Texture s → (f ≡ s.format) × (f < 4294967296) → (w ≡ s.width) × (w < 4294967296)
    → (h ≡ s.height) × (h < 4294967296) → (m ≡ s.mips) × (m < 4294967296) → (y ≡ s.layers) × (y < 4294967296)
    → flat_kind 1 f w h m y ≡ k
flat-texture k s f w h m y e a b c d g =
    e' ∙ sym e
  where
    e' : flat_kind 1 f w h m y ≡ Texture s
    e' =
        rw (mod-eq_of_lt a.1, mod-eq_of_lt b.1, mod-eq_of_lt c.1, mod-eq_of_lt d.1, mod-eq_of_lt g.1, a.0, b.0, c.0, d.0, g.0)

pub ruleset flattening = (flat-buffer, flat-texture, rules)

module _ (n : ℕ) (l : List ℕ) (r : Resource) (tag bytes format width height mips layers : ℕ) where
  pub pushes : (a p y o w : ℕ) → n < most → length l ≡ 768 → flat_kind tag format width height mips layers ≡ r.kind → bytes ≡ r.bytes
      → (a ≡ r.handle) × (a < 4294967296) → (p ≡ r.pitch) × (p < 4294967296) → (y ≡ r.backing) × (y < 4294967296) → (o ≡ r.offset) × (o < 4294967296) → (w ≡ r.lowest) × (w < 4294967296)
      → resources_of (n + 1) (set (set (set (set (set (set (set (set (set (set (set (set l (12 * n) a) (12 * n + 1) tag) (12 * n + 2) bytes) (12 * n + 3) format) (12 * n + 4) width) (12 * n + 5) height) (12 * n + 6) mips) (12 * n + 7) layers) (12 * n + 8) p) (12 * n + 9) y) (12 * n + 10) o) (12 * n + 11) w)
      ≡ pushed (resources_of n l) r
  pushes a p y o w h len k hb ha hp hy ho hw =
      let vs : List ℕ = a ∷ tag ∷ bytes ∷ format ∷ width ∷ height ∷ mips ∷ layers ∷ p ∷ y ∷ o ∷ w ∷ [] in
      let same : resource_of_row vs ≡ r = rw (mod-eq_of_lt ha.1, mod-eq_of_lt hp.1, mod-eq_of_lt hy.1, mod-eq_of_lt ho.1, mod-eq_of_lt hw.1, ha.0, hp.0, hy.0, ho.0, hw.0, hb, k) in
      let ninth : 12 * n + 9 ≡ suc (12 * n + 8) = omega arith in
      let tenth : 12 * n + 10 ≡ suc (12 * n + 9) = omega arith in
      let eleventh : 12 * n + 11 ≡ suc (12 * n + 10) = omega arith in
      rw (eleventh, tenth, ninth) (simp towards_suc (simp towards_suc at (table-push-sets resource_of_row 12 n vs l refl (omega arith)))) ∙ ap (λ x. pushed (resources_of n l) x) same

pub ruleset pushing_resource = (pushes, rules)

-- ---- remove_resource, copy_resources

pub removes : (n i : ℕ) (l m : List ℕ) → (n ≤ most) × (i < n) → length l ≡ 768 → m ≡ over (12 * i) (row_at 12 l (n - 1)) l → resources_of (n - 1) m ≡ removed i (resources_of n l)
removes n i l m pre len e = rw e (table-remove resource_of_row 12 n i l (omega arith) pre.1)

pub copies : (n : ℕ) (l k m : List ℕ) → n ≤ most → length l ≡ 768 → m ≡ over 0 (take (12 * n) l) k → resources_of n m ≡ resources_of n l
copies n l k m h len e = rw e (table-copied resource_of_row 12 n l k (omega arith))

pub ruleset moving_resource = (removes, copies, rules)
