-- What the loading of resources asks: the resource that some fields say, and the rows one after the other. Assumes nothing.
use Rattle.std.specs.Prelude.{◌≡◌, refl, Bool, true, false, List, ◌∷◌, ℕ, zero, suc, ◌+◌, ◌*◌, ◌≤◌, eqb, length}
use Rattle.std.proofs.Common.{sym, ap, ◌∙◌, add-zero, suc-add, arith, rules, eq-eqb, ne_eqb}
use Rattle.machine.specs.Machine.{pick}
use Rattle.rules.specs.Layouts.{long}
use Rattle.rules.specs.Lists.{pushed}
use Rattle.rules.specs.Shapes.{packed_size}
use Rattle.rules.specs.Packets.{backed, resource_of}
use Rattle.rules.specs.declared.Kind.TheVariants.{Buffer, Texture}
use Rattle.rules.specs.declared.Resource.{Resource}
use Rattle.rows.specs.Rows.{table-zero}
use Rattle.kept_resources.specs.Views.{resource_of_row, resources_of}
use Rattle.rules.specs.Numbers.{buffer_kind}
use Rattle.rules.specs.Loaded.{loaded_resource, loaded_resources}
use Rattle.saved_fields.specs.Judging.{seen, seen-there}
use Rattle.saved_resources.specs.Rules.{seen_resource}
use Rattle.saved_resources.specs.declared.SavedResource.{SavedResource}

-- ---- if_backed, texture_bytes

module _ (backing : ℕ) where
  pub by-host : (x : ℕ) → backing ≡ 0 → 0 ≡ pick (backed backing) x 0
  by-host x h = rw (eq-eqb backing 0 h)

  pub by-guest : (x : ℕ) → (backing ≡ 0 → ⊥) → x ≡ pick (backed backing) x 0
  by-guest x h = rw (ne_eqb backing 0 h)

  pub by-guest-sized : (x r : ℕ) → (backing ≡ 0 → ⊥) → r ≡ x → r ≡ pick (backed backing) x 0
  by-guest-sized x r h e = rw (ne_eqb backing 0 h, e)

pub ruleset where_backed = (by-host, by-guest, by-guest-sized, rules)

-- ---- resource_of

-- the resource that some fields say
abbrev pub resource_in : SavedResource → ℕ → Resource
resource_in s size =
    pick (eqb s.kind buffer_kind) (resource_of s.handle Buffer size 0 s.backing s.offset)
    (resource_of s.handle (Texture s.shape) (pick (backed s.backing) (packed_size s.shape s.pitch) 0) s.pitch s.backing s.offset)

no-pitch : (v : Bool) → ◌≡◌ {A = ℕ} (pick v 0 0) 0
no-pitch true = refl
no-pitch false = refl

module _ (s : SavedResource) (size o : ℕ) (at_offset : o ≡ pick (backed s.backing) s.offset 0) where
  pub says-buffer : s.kind ≡ 1
      → ◌≡◌ {A = Resource} (record { handle = s.handle; kind = Buffer; bytes = size; pitch = 0; backing = s.backing; offset = o; lowest = s.handle }) (resource_in s size)
  says-buffer k = rw (eq-eqb s.kind 1 k, at_offset, no-pitch (backed s.backing))

  pub says-texture : (n p : ℕ) → (s.kind ≡ 1 → ⊥) → n ≡ pick (backed s.backing) (packed_size s.shape s.pitch) 0 → p ≡ pick (backed s.backing) s.pitch 0
      → ◌≡◌ {A = Resource} (record { handle = s.handle; kind = Texture s.shape; bytes = n; pitch = p; backing = s.backing; offset = o; lowest = s.handle }) (resource_in s size)
  says-texture n p k f g = rw (ne_eqb s.kind 1 k, at_offset, f, g)

pub ruleset saying = (says-buffer, says-texture, rules)

-- ---- resource_at

module _ (b : List ℕ) (at : ℕ) where
  pub at_place : (s : SavedResource) (size place : ℕ) (r : Resource) → at + 48 ≤ length b → place ≡ at → size ≡ long b (place + 8) → s ≡ seen_resource b at
      → r ≡ resource_in s size → r ≡ loaded_resource b at
  unfolding loaded_resource
  at_place s size place r h here e f g =
      g ∙ rw (f, e, here, seen-there b at (omega arith), seen-there b (at + 4) (omega arith), seen-there b (at + 16) (omega arith), seen-there b (at + 20) (omega arith), seen-there b (at + 24) (omega arith), seen-there b (at + 28) (omega arith), seen-there b (at + 32) (omega arith), seen-there b (at + 36) (omega arith), seen-there b (at + 40) (omega arith), seen-there b (at + 44) (omega arith))

  pub size-there : (place : ℕ) → place ≡ at → at + 48 ≤ length b → place + 8 + 8 ≤ length b
  size-there place here h = omega arith

pub ruleset placing = (at_place, size-there, rules)

-- ---- load_resources

-- one more, after those before it
one_more : (n : ℕ) (b : List ℕ) (at : ℕ) → loaded_resources (n + 1) b at ≡ pushed (loaded_resources n b at) (loaded_resource b (at + 48 * n))
unfolding loaded_resources
one_more zero b at = rw add-zero
one_more (suc n) b at =
    let far : at + 48 * suc n ≡ at + 48 + 48 * n = omega arith in
    rw (suc-add, far) (ap (λ rs. loaded_resource b at ∷ rs) (one_more n b (at + 48)))

module _ (b : List ℕ) (start : ℕ) where
  pub rows_start : (l : List ℕ) → resources_of 0 l ≡ loaded_resources 0 b start
  unfolding loaded_resources
  rows_start l = table-zero resource_of_row 12 l

  pub rows-turn : (n at : ℕ) (l l' : List ℕ) (r : Resource) → at ≡ start + 48 * n → resources_of n l ≡ loaded_resources n b start → r ≡ loaded_resource b at
      → resources_of (n + 1) l' ≡ pushed (resources_of n l) r → resources_of (n + 1) l' ≡ loaded_resources (n + 1) b start
  rows-turn n at l l' r here inv e f = f ∙ rw (inv, e, here) (sym (one_more n b start))

  pub rows_end : (n i : ℕ) (l : List ℕ) → i ≤ n → n ≤ i → resources_of i l ≡ loaded_resources i b start → resources_of n l ≡ loaded_resources n b start
  rows_end n i l h k inv =
      let same : n ≡ i = omega arith in
      rw same inv

pub ruleset loading_rows = (rows_start, rows-turn, rows_end, rules)
