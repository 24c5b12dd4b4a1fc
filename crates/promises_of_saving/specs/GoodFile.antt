-- What the rules of a file say once every one is kept, field by field, and that these facts are all that they ask. Assumes nothing.
use Rattle.std.specs.Prelude.{◌≡◌, refl, Bool, true, false, not, ◌||◌, List, [], ◌∷◌, ◌++◌, ℕ, zero, suc, ◌+◌, ◌*◌, ◌≤◌, ltb, leb, eqb}
use native.Mathlib.Omega.{arith}
use borrow.Author.Tests.{eqb-true, eq-eqb, leb-true, le-leb, ltb-false, le-ltb}
use Rattle.std.proofs.Math.ListN.{length}
use Rattle.machine.specs.Machine.{pick}
use Rattle.rules.specs.Numbers.{most, most_layers, longest_side, device_magic, version, features, texture_kind}
use Rattle.rules.specs.Layouts.{word, long}
use Rattle.rules.specs.Shapes.{block_bytes, full_chain}
use Rattle.rules.specs.Packets.{backed}
use Rattle.rules.specs.Saved.{resource_bytes, section_1_count, detail_place, memory_place, count_place, head_bytes}
use Rattle.rules.specs.Loaded.{Rule, must, any, good_code, good_error, between, saved_shape, is_buffer, good_pitch, resource_rules, resources_rules, names_place, form_in, before_sections, sections, detail_rules, head_rules, section_2, later_rules, sections_rules, file_rules, detail_in}
use Rattle.rules.specs.declared.Form.{Form}
use Rattle.rules.specs.declared.Form.TheVariants.{One, Two}
use Rattle.promises_of_packets.specs.Held.{Every, every-none, every_front, every_back, every-both}
use Rattle.promises_of_saving.specs.FirstBroken.{Kept, and_kept, kept-behind, kept-before, must-here, must-holds, must-kept}
use Rattle.promises_of_saving.specs.GoodShared.{GoodShared, good-shared, shared_kept}

-- ---- the head

pub record GoodHead (f : Form) (b : List ℕ) : Type 0 where
  pub whole : head_bytes f ≤ length b
  pub section : word b 0 ≡ section_1_count f
  pub magic : word b 4 ≡ device_magic
  pub its-version : word b 8 ≡ version
  pub its-features : word b 12 ≡ features
  pub more-features : word b 16 ≡ 0
  pub control : word b 32 ≤ 1
  pub status : word b 52 ≤ 3
  pub code : good_code (word b 60) ≡ true
  pub count : good_error (word b 60) (long b 64) (word b 72) ≡ true
  pub detail : word b 60 ≡ 0 → detail_in f b ≡ 0
  pub flag : word b (memory_place f + 8) ≤ 1
  pub few : word b (count_place f) ≤ most

-- "detail 0 with code 0": in form 1 there is none
abbrev none_or_none : ℕ → ℕ → Bool
none_or_none code detail = not (eqb code 0) || eqb detail 0

none-without : (code detail : ℕ) → none_or_none code detail ≡ true → code ≡ 0 → detail ≡ 0
none-without code detail h e = eqb-true detail 0 (rw (eq-eqb code 0 e) at h)

without-none : (code detail : ℕ) → (code ≡ 0 → detail ≡ 0) → none_or_none code detail ≡ true
without-none code detail h = by_test (eqb code 0) refl
  where
    by_test : (t : Bool) → eqb code 0 ≡ t → not t || eqb detail 0 ≡ true
    by_test true e = eq-eqb detail 0 (h (eqb-true code 0 e))
    by_test false e = refl

good-detail : (f : Form) (b : List ℕ) → Every Kept (detail_rules f b) → word b 60 ≡ 0 → detail_in f b ≡ 0
unfolding Every
good-detail One b k = λ e. refl
good-detail Two b k = none-without (word b 60) (word b detail_place) (must-holds b detail_place (none_or_none (word b 60) (word b detail_place)) k.0)

detail-kept : (f : Form) (b : List ℕ) → head_bytes f ≤ length b → (word b 60 ≡ 0 → detail_in f b ≡ 0) → Every Kept (detail_rules f b)
detail-kept One b h d = every-none Kept
detail-kept Two b h d =
    and_kept _ _ (must-kept b detail_place (none_or_none (word b 60) (word b detail_place)) (omega arith) (without-none (word b 60) (word b detail_place) d)) (every-none Kept)

-- the rules after the detail's
abbrev pub memory_rules : Form → List ℕ → List Rule
memory_rules f b =
    any b (memory_place f)
    ∷ any b (memory_place f + 4)
    ∷ must b (memory_place f + 8) (leb (word b (memory_place f + 8)) 1)
    ∷ must b (count_place f) (leb (word b (count_place f)) most)
    ∷ []

pub good-head : (f : Form) (b : List ℕ) → Every Kept (head_rules f b) → GoodHead f b
unfolding Every
good-head f b k0 =
    let k4 = k0.1 in
    let k8 = k4.1 in
    let k12 = k8.1 in
    let k16 = k12.1 in
    let k32 = k16.1.1.1.1 in
    let k52 = k32.1.1.1.1.1 in
    let k60 = k52.1.1 in
    let k72 = k60.1.1.1 in
    let k76 : Every Kept (detail_rules f b ++ memory_rules f b) = k72.1 in
    let flag = (every_back Kept (detail_rules f b) (memory_rules f b) k76).1.1 in
    record {
      whole = omega (arith, must-here b (count_place f) (leb (word b (count_place f)) most) flag.1.0);
      section = eqb-true (word b 0) (section_1_count f) (must-holds b 0 _ k0.0);
      magic = eqb-true (word b 4) device_magic (must-holds b 4 _ k4.0);
      its-version = eqb-true (word b 8) version (must-holds b 8 _ k8.0);
      its-features = eqb-true (word b 12) features (must-holds b 12 _ k12.0);
      more-features = eqb-true (word b 16) 0 (must-holds b 16 _ k16.0);
      control = leb-true (word b 32) 1 (must-holds b 32 _ k32.0);
      status = leb-true (word b 52) 3 (must-holds b 52 _ k52.0);
      code = must-holds b 60 _ k60.0;
      count = must-holds b 72 _ k72.0;
      detail = good-detail f b (every_front Kept (detail_rules f b) (memory_rules f b) k76);
      flag = leb-true (word b (memory_place f + 8)) 1 (must-holds b (memory_place f + 8) _ flag.0);
      few = leb-true (word b (count_place f)) most (must-holds b (count_place f) _ flag.1.0);
    }

pub head-kept : (f : Form) (b : List ℕ) → GoodHead f b → Every Kept (head_rules f b)
head-kept f b g =
    and_kept _ _ (must-kept b 0 _ (near 0 (omega arith)) (eq-eqb (word b 0) (section_1_count f) g.section))
    (and_kept _ _ (must-kept b 4 _ (near 4 (omega arith)) (eq-eqb (word b 4) device_magic g.magic))
    (and_kept _ _ (must-kept b 8 _ (near 8 (omega arith)) (eq-eqb (word b 8) version g.its-version))
    (and_kept _ _ (must-kept b 12 _ (near 12 (omega arith)) (eq-eqb (word b 12) features g.its-features))
    (and_kept _ _ (must-kept b 16 _ (near 16 (omega arith)) (eq-eqb (word b 16) 0 g.more-features))
    (and_kept _ _ (must-kept b 20 _ (near 20 (omega arith)) refl)
    (and_kept _ _ (must-kept b 24 _ (near 24 (omega arith)) refl)
    (and_kept _ _ (must-kept b 28 _ (near 28 (omega arith)) refl)
    (and_kept _ _ (must-kept b 32 _ (near 32 (omega arith)) (le-leb (word b 32) 1 g.control))
    (and_kept _ _ (must-kept b 36 _ (near 36 (omega arith)) refl)
    (and_kept _ _ (must-kept b 40 _ (near 40 (omega arith)) refl)
    (and_kept _ _ (must-kept b 44 _ (near 44 (omega arith)) refl)
    (and_kept _ _ (must-kept b 48 _ (near 48 (omega arith)) refl)
    (and_kept _ _ (must-kept b 52 _ (near 52 (omega arith)) (le-leb (word b 52) 3 g.status))
    (and_kept _ _ (must-kept b 56 _ (near 56 (omega arith)) refl)
    (and_kept _ _ (must-kept b 60 _ (near 60 (omega arith)) g.code)
    (and_kept _ _ (must-kept b 64 _ (near 64 (omega arith)) refl)
    (and_kept _ _ (must-kept b 68 _ (near 68 (omega arith)) refl)
    (and_kept _ _ (must-kept b 72 _ (near 72 (omega arith)) g.count)
    (every-both Kept (detail_rules f b) (memory_rules f b) (detail-kept f b g.whole g.detail)
    (and_kept _ _ (must-kept b (memory_place f) true (omega (arith, g.whole)) refl)
    (and_kept _ _ (must-kept b (memory_place f + 4) true (omega (arith, g.whole)) refl)
    (and_kept _ _ (must-kept b (memory_place f + 8) _ (omega (arith, g.whole)) (le-leb (word b (memory_place f + 8)) 1 g.flag))
    (and_kept _ _ (must-kept b (count_place f) _ (omega (arith, g.whole)) (le-leb (word b (count_place f)) most g.few)) (every-none Kept))))))))))))))))))))))))
  where
    near : (at : ℕ) → at ≤ 72 → at + 4 ≤ length b
    near at h = omega (arith, g.whole)

-- ---- a resource

pub record GoodResource (b : List ℕ) (at before : ℕ) : Type 0 where
  pub whole : at + 48 ≤ length b
  pub handle : ltb before (word b at) ≡ true
  pub kind : is_buffer b at || eqb (word b (at + 4)) texture_kind ≡ true
  pub size_low : is_buffer b at || eqb (word b (at + 8)) 0 ≡ true
  pub size-high : pick (is_buffer b at) (not (eqb (long b (at + 8)) 0)) (eqb (word b (at + 12)) 0) ≡ true
  pub format : pick (is_buffer b at) (eqb (word b (at + 16)) 0) (ltb 0 (block_bytes (word b (at + 16)))) ≡ true
  pub width : pick (is_buffer b at) (eqb (word b (at + 20)) 0) (between 1 longest_side (word b (at + 20))) ≡ true
  pub height : pick (is_buffer b at) (eqb (word b (at + 24)) 0) (between 1 longest_side (word b (at + 24))) ≡ true
  pub mips : pick (is_buffer b at) (eqb (word b (at + 28)) 0) (between 1 (full_chain (word b (at + 20)) (word b (at + 24))) (word b (at + 28))) ≡ true
  pub layers : pick (is_buffer b at) (eqb (word b (at + 32)) 0) (between 1 most_layers (word b (at + 32))) ≡ true
  pub pitch : not (is_buffer b at) || eqb (word b (at + 36)) 0 ≡ true
  pub backing : is_buffer b at || good_pitch (saved_shape b at) (word b (at + 36)) (word b (at + 40)) ≡ true
  pub offset : backed (word b (at + 40)) || eqb (word b (at + 44)) 0 ≡ true

pub good-resource : (b : List ℕ) (at before : ℕ) → Every Kept (resource_rules b at before) → GoodResource b at before
unfolding Every
good-resource b at before k0 =
    let k4 = k0.1 in
    let k8 = k4.1 in
    let k12 = k8.1 in
    let k16 = k12.1 in
    let k20 = k16.1 in
    let k24 = k20.1 in
    let k28 = k24.1 in
    let k32 = k28.1 in
    let k36 = k32.1 in
    let k40 = k36.1 in
    let k44 = k40.1 in
    record {
      whole = omega (arith, must-here b (at + 44) (backed (word b (at + 40)) || eqb (word b (at + 44)) 0) k44.0);
      handle = must-holds b at _ k0.0;
      kind = must-holds b (at + 4) _ k4.0;
      size_low = must-holds b (at + 8) _ k8.0;
      size-high = must-holds b (at + 12) _ k12.0;
      format = must-holds b (at + 16) _ k16.0;
      width = must-holds b (at + 20) _ k20.0;
      height = must-holds b (at + 24) _ k24.0;
      mips = must-holds b (at + 28) _ k28.0;
      layers = must-holds b (at + 32) _ k32.0;
      pitch = must-holds b (at + 36) _ k36.0;
      backing = must-holds b (at + 40) _ k40.0;
      offset = must-holds b (at + 44) _ k44.0;
    }

pub resource-kept : (b : List ℕ) (at before : ℕ) → GoodResource b at before → Every Kept (resource_rules b at before)
resource-kept b at before g =
    and_kept _ _ (must-kept b at _ (omega (arith, g.whole)) g.handle)
    (and_kept _ _ (must-kept b (at + 4) _ (near 4 (omega arith)) g.kind)
    (and_kept _ _ (must-kept b (at + 8) _ (near 8 (omega arith)) g.size_low)
    (and_kept _ _ (must-kept b (at + 12) _ (near 12 (omega arith)) g.size-high)
    (and_kept _ _ (must-kept b (at + 16) _ (near 16 (omega arith)) g.format)
    (and_kept _ _ (must-kept b (at + 20) _ (near 20 (omega arith)) g.width)
    (and_kept _ _ (must-kept b (at + 24) _ (near 24 (omega arith)) g.height)
    (and_kept _ _ (must-kept b (at + 28) _ (near 28 (omega arith)) g.mips)
    (and_kept _ _ (must-kept b (at + 32) _ (near 32 (omega arith)) g.layers)
    (and_kept _ _ (must-kept b (at + 36) _ (near 36 (omega arith)) g.pitch)
    (and_kept _ _ (must-kept b (at + 40) _ (near 40 (omega arith)) g.backing)
    (and_kept _ _ (must-kept b (at + 44) _ (near 44 (omega arith)) g.offset) (every-none Kept))))))))))))
  where
    near : (k : ℕ) → k ≤ 44 → at + k + 4 ≤ length b
    near k h = omega (arith, g.whole)

-- ---- resources in a row

unfoldable pub GoodResources : ℕ → List ℕ → ℕ → ℕ → Type 0
GoodResources zero b at before = 0 ≤ 0
GoodResources (suc n) b at before = GoodResource b at before × GoodResources n b (at + resource_bytes) (word b at)

pub good-resources : (n : ℕ) (b : List ℕ) (at before : ℕ) → Every Kept (resources_rules n b at before) → GoodResources n b at before
unfolding GoodResources resources_rules
good-resources zero b at before k = omega arith
good-resources (suc n) b at before k = (
  good-resource b at before (every_front Kept (resource_rules b at before) (resources_rules n b (at + resource_bytes) (word b at)) k),
  good-resources n b (at + resource_bytes) (word b at) (every_back Kept (resource_rules b at before) (resources_rules n b (at + resource_bytes) (word b at)) k),
)

pub resources-kept : (n : ℕ) (b : List ℕ) (at before : ℕ) → GoodResources n b at before → Every Kept (resources_rules n b at before)
unfolding GoodResources resources_rules
resources-kept zero b at before g = every-none Kept
resources-kept (suc n) b at before g =
    every-both Kept (resource_rules b at before) (resources_rules n b (at + resource_bytes) (word b at)) (resource-kept b at before g.0)
    (resources-kept n b (at + resource_bytes) (word b at) g.1)

-- they are all there
reach : (n : ℕ) (b : List ℕ) (at before : ℕ) → at ≤ length b → GoodResources n b at before → at + resource_bytes * n ≤ length b
unfolding GoodResources
reach zero b at before h g = omega arith
reach (suc n) b at before h g = omega (arith, reach n b (at + resource_bytes) (word b at) (omega (arith, g.0.whole)) g.1)

-- ---- the sections of a form

-- after the resources form 1 ends, and form 2 has two sections more
abbrev pub GoodLater : Form → List ℕ → ℕ → Type 0
GoodLater One b at = length b ≡ at
GoodLater Two b at = GoodShared (section_2 Two b) b at

pub record GoodSections (f : Form) (b : List ℕ) : Type 0 where
  pub head : GoodHead f b
  pub resources : GoodResources (word b (count_place f)) b (head_bytes f) 0
  pub later : GoodLater f b (names_place f (word b (count_place f)))

module _ (b : List ℕ) (at : ℕ) where
  good_later : (f : Form) → at ≤ length b → Every Kept (later_rules f b at) → GoodLater f b at
  unfolding Every
  good_later One h k = let no_more : length b ≤ at = ltb-false at (length b) k.0 in omega arith
  good_later Two h k = good-shared (section_2 Two b) b at k

  later-kept : (f : Form) → GoodLater f b at → Every Kept (later_rules f b at)
  unfolding Every
  later-kept One e = (le-ltb at (length b) (omega arith), every-none Kept)
  later-kept Two g = shared_kept (section_2 Two b) b at g

module _ (f : Form) (b : List ℕ) where
  abbrev rules_of_resources : List Rule
  rules_of_resources = resources_rules (word b (count_place f)) b (head_bytes f) 0

  abbrev rules_after : List Rule
  rules_after = later_rules f b (names_place f (word b (count_place f)))

  pub good-sections : Every Kept (sections_rules f b) → GoodSections f b
  unfolding sections_rules
  good-sections k =
      let h : GoodHead f b = good-head f b (every_front Kept (head_rules f b) (rules_of_resources ++ rules_after) k) in
      let rest : Every Kept (rules_of_resources ++ rules_after) = every_back Kept (head_rules f b) (rules_of_resources ++ rules_after) k in
      let r : GoodResources (word b (count_place f)) b (head_bytes f) 0 =
      good-resources (word b (count_place f)) b (head_bytes f) 0 (every_front Kept rules_of_resources rules_after rest) in
      record {
        head = h;
        resources = r;
        later = good_later b (names_place f (word b (count_place f))) f (reach (word b (count_place f)) b (head_bytes f) 0 h.whole r)
            (every_back Kept rules_of_resources rules_after rest);
      }

  pub sections-kept : GoodSections f b → Every Kept (sections_rules f b)
  unfolding sections_rules
  sections-kept g =
      every-both Kept (head_rules f b) (rules_of_resources ++ rules_after) (head-kept f b g.head)
      (every-both Kept rules_of_resources rules_after (resources-kept (word b (count_place f)) b (head_bytes f) 0 g.resources)
      (later-kept b (names_place f (word b (count_place f))) f g.later))

-- ---- a file: its sections, in the form that it says

abbrev pub GoodFile : List ℕ → Type 0
GoodFile b = GoodSections (form_in b) (sections b)

module _ (b : List ℕ) where
  pub good-file : Every Kept (file_rules b) → GoodFile b
  unfolding file_rules
  good-file k =
      good-sections (form_in b) (sections b) (kept-before (before_sections b) (sections_rules (form_in b) (sections b)) k)

  pub file-kept : GoodFile b → Every Kept (file_rules b)
  unfolding file_rules
  file-kept g = kept-behind (before_sections b) (sections_rules (form_in b) (sections b)) (sections-kept (form_in b) (sections b) g)
