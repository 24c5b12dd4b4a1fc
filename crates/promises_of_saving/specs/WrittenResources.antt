-- The resources that saving writes keep the rules of a file, and are read back as they were. Assumes nothing.
use Rattle.std.specs.Prelude.{◌≡◌, refl, Bool, true, false, ◌||◌, List, [], ◌∷◌, ◌++◌, ℕ, ◌+◌, ◌*◌, ◌%◌, ◌^◌, ◌≤◌, ◌<◌, leb, eqb, length, get_or}
use Rattle.std.proofs.Common.{sym, ap, subst, ◌∙◌, append_assoc, add-zero, arith, eq-eqb, ne_eqb, lt-ltb, length-append, get_or-append-add}
use Rattle.machine.specs.Machine.{pick}
use Rattle.rules.specs.Layouts.{word, long}
use Rattle.rules.specs.Shapes.{packed_size, tight}
use Rattle.rules.specs.Packets.{backed, handle_of}
use Rattle.rules.specs.Registers.{low, high}
use Rattle.rules.specs.declared.Shape.{Shape}
use Rattle.rules.specs.declared.Kind.{Kind}
use Rattle.rules.specs.declared.Kind.TheVariants.{Buffer, Texture}
use Rattle.rules.specs.declared.Resource.{Resource}
use Rattle.rules.specs.Numbers.{buffer_kind, texture_kind}
use Rattle.rules.specs.Saved.{kind_fields, resource_fields, resources_fields}
use Rattle.rules.specs.Loaded.{saved_shape, is_buffer, good_pitch, loaded_resource, loaded_resources}
use Rattle.rule_laws.specs.Created.{AsCreated}
use Rattle.promises_of_packets.specs.Held.{Every}
use Rattle.promises_of_saving.specs.Rising.{Rises}
use Rattle.promises_of_saving.specs.FileWords.{long-is-two}
use Rattle.promises_of_saving.specs.GoodShape.{GoodSides, good-sides}
use Rattle.promises_of_saving.specs.GoodFile.{GoodResource, GoodResources}
use Rattle.promises_of_saving.specs.LoadedResources.{is-the-buffer, is-the-texture, zero-anyway, pitch-or-zero, OneName}
use Rattle.promises_of_saving.specs.Savable.{FitsShape, FitsResource}

-- ---- fields that stand in a file

-- from a place on, these fields are read
abbrev pub Reads : List ℕ → ℕ → List ℕ → Type 0
Reads b at vs = (i : ℕ) → word b (at + 4 * i) ≡ get_or vs i 0 % 2 ^ 32

pub reads_first : (b : List ℕ) (at : ℕ) (vs : List ℕ) → Reads b at vs → word b at ≡ get_or vs 0 0 % 2 ^ 32
reads_first b at vs r = ap (word b) (sym (add-zero at)) ∙ r 0

-- and those behind them
pub reads-later : (b : List ℕ) (at next : ℕ) (us vs : List ℕ) → next ≡ at + 4 * length us → Reads b at (us ++ vs) → Reads b next vs
reads-later b at next us vs e r i =
    let s : next + 4 * i ≡ at + 4 * (length us + i) = omega arith in
    ap (word b) s ∙ (r (length us + i) ∙ ap (λ v. v % 2 ^ 32) (get_or-append-add us vs i 0))

pub word_back : (w v : ℕ) → w ≡ v % 2 ^ 32 → v < 2 ^ 32 → w ≡ v
word_back w v e h = omega arith

pub long-back : (b : List ℕ) (at next v : ℕ) → at + 4 ≤ length b → at + 4 ≡ next → word b at ≡ low v % 2 ^ 32 → word b next ≡ high v % 2 ^ 32 → v < 2 ^ 64 → long b at ≡ v
long-back b at next v h n e f l =
    let g : word b (at + 4) ≡ high v % 2 ^ 32 = ap (word b) n ∙ f in
    omega (arith, long-is-two b at h)

-- ---- tests

or-none : (t : Bool) (v : ℕ) → (t ≡ false → v ≡ 0) → pick t v 0 ≡ v
or-none true v h = refl
or-none false v h = sym (h refl)

or-none-kept : (t : Bool) (v : ℕ) → (t ≡ false → v ≡ 0) → t || eqb v 0 ≡ true
or-none-kept true v h = refl
or-none-kept false v h = eq-eqb v 0 (h refl)

-- ---- one resource

abbrev made_of : ℕ → Kind → ℕ → ℕ → ℕ → ℕ → ℕ → Resource
made_of handle kind bytes pitch backing offset lowest =
    record { handle = handle; kind = kind; bytes = bytes; pitch = pitch; backing = backing; offset = offset; lowest = lowest }

same-resource : {h h' : ℕ} {k k' : Kind} {n n' p p' b b' o o' l l' : ℕ}
    → h ≡ h' → k ≡ k' → n ≡ n' → p ≡ p' → b ≡ b' → o ≡ o' → l ≡ l' → made_of h k n p b o l ≡ made_of h' k' n' p' b' o' l'
same-resource a b c d e f g = rw (a, b, c, d, e, f, g)

pub record ReadBack (b : List ℕ) (at before : ℕ) (r : Resource) : Type 0 where
  pub good : GoodResource b at before
  pub same : loaded_resource b at ≡ r
  pub first : word b at ≡ r.handle

module _ (b : List ℕ) (at before : ℕ) (whole : at + 48 ≤ length b) (handle bytes pitch backing offset lowest : ℕ) (rest : List ℕ) (rises : before < handle) where
  abbrev its : Kind → Resource
  its kind = made_of handle kind bytes pitch backing offset lowest

  buffer-back : AsCreated (its Buffer) → lowest ≡ handle → FitsResource (its Buffer) → Reads b at (resource_fields (its Buffer) ++ rest) → ReadBack b at before (its Buffer)
  buffer-back c own fits reads =
      let e0 : word b at ≡ handle = word_back (word b at) handle (reads_first b at (resource_fields (its Buffer) ++ rest) reads) fits.handle in
      let e4 : word b (at + 4) ≡ buffer_kind = reads 1 in
      let size : long b (at + 8) ≡ bytes = long-back b (at + 8) (at + 12) bytes (omega arith) (omega arith) (reads 2) (reads 3) fits.bytes in
      let e16 : word b (at + 16) ≡ 0 = reads 4 in
      let e20 : word b (at + 20) ≡ 0 = reads 5 in
      let e24 : word b (at + 24) ≡ 0 = reads 6 in
      let e28 : word b (at + 28) ≡ 0 = reads 7 in
      let e32 : word b (at + 32) ≡ 0 = reads 8 in
      let e36 : word b (at + 36) ≡ 0 = word_back (word b (at + 36)) pitch (reads 9) fits.pitch ∙ c.shape in
      let e40 : word b (at + 40) ≡ backing = word_back (word b (at + 40)) backing (reads 10) fits.backing in
      let e44 : word b (at + 44) ≡ offset = word_back (word b (at + 44)) offset (reads 11) fits.offset in
      let is : is_buffer b at ≡ true = eq-eqb (word b (at + 4)) buffer_kind e4 in
      record {
        good = record {
          whole = whole;
          handle = lt-ltb before (word b at) (omega arith);
          kind = rw is;
          size_low = rw is;
          size-high = rw (is, size, ne_eqb bytes 0 c.bytes);
          format = rw (is, e16);
          width = rw (is, e20);
          height = rw (is, e24);
          mips = rw (is, e28);
          layers = rw (is, e32);
          pitch = rw (is, e36);
          backing = rw is;
          offset = rw (e40, e44) (or-none-kept (backed backing) offset c.offset);
        };
        same = is-the-buffer b at is
            ∙ same-resource e0 refl size (zero-anyway (backed (word b (at + 40))) ∙ sym c.shape) e40
            (rw (e40, e44) (or-none (backed backing) offset c.offset)) (e0 ∙ sym own);
        first = e0;
      }

  module _ (s : Shape) where
    same_shape : FitsShape s → Reads b at (resource_fields (its (Texture s)) ++ rest) → saved_shape b at ≡ s
    same_shape f reads =
        let e16 : word b (at + 16) ≡ s.format = word_back (word b (at + 16)) s.format (reads 4) f.format in
        let e20 : word b (at + 20) ≡ s.width = word_back (word b (at + 20)) s.width (reads 5) f.width in
        let e24 : word b (at + 24) ≡ s.height = word_back (word b (at + 24)) s.height (reads 6) f.height in
        let e28 : word b (at + 28) ≡ s.mips = word_back (word b (at + 28)) s.mips (reads 7) f.mips in
        let e32 : word b (at + 32) ≡ s.layers = word_back (word b (at + 32)) s.layers (reads 8) f.layers in
        rw (e16, e20, e24, e28, e32)

    texture-back : AsCreated (its (Texture s)) → lowest ≡ handle → FitsResource (its (Texture s)) → Reads b at (resource_fields (its (Texture s)) ++ rest)
        → ReadBack b at before (its (Texture s))
    texture-back c own fits reads =
        let e0 : word b at ≡ handle = word_back (word b at) handle (reads_first b at (resource_fields (its (Texture s)) ++ rest) reads) fits.handle in
        let e4 : word b (at + 4) ≡ texture_kind = reads 1 in
        let e8 : word b (at + 8) ≡ 0 = reads 2 in
        let e12 : word b (at + 12) ≡ 0 = reads 3 in
        let e36 : word b (at + 36) ≡ pitch = word_back (word b (at + 36)) pitch (reads 9) fits.pitch in
        let e40 : word b (at + 40) ≡ backing = word_back (word b (at + 40)) backing (reads 10) fits.backing in
        let e44 : word b (at + 44) ≡ offset = word_back (word b (at + 44)) offset (reads 11) fits.offset in
        let shape : saved_shape b at ≡ s = same_shape fits.kind reads in
        let sides : GoodSides (saved_shape b at) = subst GoodSides (sym shape) (good-sides s c.shape.0) in
        let is : is_buffer b at ≡ false = ne_eqb (word b (at + 4)) buffer_kind (λ u. omega arith) in
        record {
          good = record {
            whole = whole;
            handle = lt-ltb before (word b at) (omega arith);
            kind = rw (is, e4);
            size_low = rw (is, e8);
            size-high = rw (is, e12);
            format = rw is sides.format;
            width = rw is sides.width;
            height = rw is sides.height;
            mips = rw is sides.mips;
            layers = rw is sides.layers;
            pitch = rw is;
            backing = rw (is, e36, e40) (ap (λ (x : Shape). good_pitch x pitch backing) shape ∙ c.shape.1);
            offset = rw (e40, e44) (or-none-kept (backed backing) offset c.offset);
          };
          same = is-the-texture b at is
              ∙ same-resource e0 (ap Texture shape)
              (rw (e36, e40) (ap (λ (x : Shape). pick (backed backing) (packed_size x pitch) 0) shape ∙ sym c.bytes))
              (rw (e36, e40) (pitch-or-zero (backed backing) (leb (tight s 0) pitch) pitch c.shape.1))
              e40 (rw (e40, e44) (or-none (backed backing) offset c.offset)) (e0 ∙ sym own);
          first = e0;
        }

  by_kind : (k : Kind) → AsCreated (its k) → lowest ≡ handle → FitsResource (its k) → Reads b at (resource_fields (its k) ++ rest) → ReadBack b at before (its k)
  by_kind Buffer = buffer-back
  by_kind (Texture s) = texture-back s

read_back : (b : List ℕ) (at before : ℕ) → at + 48 ≤ length b → (r : Resource) (rest : List ℕ) → before < r.handle → AsCreated r → OneName r → FitsResource r
    → Reads b at (resource_fields r ++ rest) → ReadBack b at before r
read_back b at before whole r rest rises c own fits reads =
    by_kind b at before whole r.handle r.bytes r.pitch r.backing r.offset r.lowest rest rises r.kind c own fits reads

-- ---- all of them

twelve-fields : (r : Resource) → length (resource_fields r) ≡ 12
twelve-fields r = by-kind-of r.kind
  where
    by-kind-of : (k : Kind) → length (r.handle ∷ (kind_fields k r.bytes ++ (r.pitch ∷ r.backing ∷ r.offset ∷ []))) ≡ 12
    by-kind-of Buffer = refl
    by-kind-of (Texture s) = refl

pub length_fields : (rs : List Resource) → length (resources_fields rs) ≡ 12 * length rs
unfolding resources_fields
length_fields [] = refl
length_fields (r ∷ rs) = length-append (resource_fields r) (resources_fields rs) ∙ omega (arith, twelve-fields r, length_fields rs)

-- so many resources, and what stands behind them
pub written-resources : (rs : List Resource) (rest : List ℕ) (b : List ℕ) (at before : ℕ) → Rises handle_of before rs → Every AsCreated rs → Every OneName rs
    → Every FitsResource rs → at + 48 * length rs ≤ length b → Reads b at (resources_fields rs ++ rest)
    → GoodResources (length rs) b at before × (loaded_resources (length rs) b at ≡ rs)
unfolding resources_fields loaded_resources GoodResources Every Rises
written-resources [] rest b at before rise created own fits room reads = (omega arith, refl)
written-resources (r ∷ rs) rest b at before rise created own fits room reads =
    let all : Reads b at (resource_fields r ++ (resources_fields rs ++ rest)) =
    subst (Reads b at) (append_assoc (resource_fields r) (resources_fields rs) rest) reads in
    let one : ReadBack b at before r = read_back b at before (omega arith) r (resources_fields rs ++ rest) rise.0 created.0 own.0 fits.0 all in
    let later = written-resources rs rest b (at + 48) r.handle rise.1 created.1 own.1 fits.1 (omega arith)
    (reads-later b at (at + 48) (resource_fields r) (resources_fields rs ++ rest) (omega (arith, twelve-fields r)) all) in
    ((one.good, subst (GoodResources (length rs) b (at + 48)) (sym one.first) later.0), rw (one.same, later.1))
