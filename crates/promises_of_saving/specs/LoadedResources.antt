-- The resources that a good file says: each is as create leaves one, their handles rise, and their fields are the words that they were read from.
-- Assumes nothing.
use Rattle.std.specs.Prelude.{◌≡◌, refl, Bool, true, false, ◌||◌, List, [], ◌∷◌, ◌++◌, ℕ, zero, suc, ◌+◌, ◌*◌, ◌^◌, ◌≤◌, ◌<◌, eqb, length}
use Rattle.std.proofs.Common.{sym, ap, subst, ◌∙◌, add_assoc, arith, eqb-true, ltb-true}
use Rattle.std.proofs.lemmas.Bool.{eqb-false, not-true}
use Rattle.machine.specs.Machine.{pick}
use Rattle.rules.specs.Layouts.{word, long}
use Rattle.rules.specs.Shapes.{good_shape, packed_size}
use Rattle.rules.specs.Packets.{handle_of, backed, resource_of}
use Rattle.rules.specs.Registers.{low, high}
use Rattle.rules.specs.declared.Kind.TheVariants.{Buffer, Texture}
use Rattle.rules.specs.declared.Resource.{Resource}
use Rattle.rules.specs.Numbers.{buffer_kind, texture_kind}
use Rattle.rules.specs.Saved.{resource_bytes, resource_fields, resources_fields}
use Rattle.rules.specs.Loaded.{saved_shape, is_buffer, good_pitch, loaded_resource, loaded_resources}
use Rattle.rule_laws.specs.Created.{AsCreated}
use Rattle.promises_of_packets.specs.Held.{Every, every-none}
use Rattle.promises_of_submissions.specs.LentBytes.{OfBytes, word_fits}
use Rattle.promises_of_saving.specs.Rising.{Rises}
use Rattle.promises_of_saving.specs.GoodShape.{sides-good}
use Rattle.promises_of_saving.specs.FileWords.{long-is-two, words_at, words-both}
use Rattle.promises_of_saving.specs.GoodFile.{GoodResource, GoodResources}

-- ---- halves of a number of 64 bits

pub low-of-long : (b : List ℕ) (at : ℕ) → OfBytes b → at + 4 ≤ length b → low (long b at) ≡ word b at
low-of-long b at o h = let l : word b at < 2 ^ 32 = word_fits b at o in omega (arith, long-is-two b at h)

pub high-of-long : (b : List ℕ) (at next : ℕ) → OfBytes b → at + 4 ≤ length b → at + 4 ≡ next → high (long b at) ≡ word b next
high-of-long b at next o h e =
    let l : word b at < 2 ^ 32 = word_fits b at o in
    let s : high (long b at) ≡ word b (at + 4) = omega (arith, long-is-two b at h) in
    s ∙ ap (word b) e

-- ---- lists of fields

pub and_then : {x y : ℕ} {xs ys : List ℕ} → x ≡ y → xs ≡ ys → x ∷ xs ≡ y ∷ ys
and_then p q = rw (p, q)

twelve-words : (b : List ℕ) (at : ℕ)
    → words_at 12 b at
    ≡ word b at ∷ word b (at + 4) ∷ word b (at + 8) ∷ word b (at + 12) ∷ word b (at + 16) ∷ word b (at + 20) ∷ word b (at + 24) ∷ word b (at + 28)
    ∷ word b (at + 32) ∷ word b (at + 36) ∷ word b (at + 40) ∷ word b (at + 44) ∷ []
unfolding words_at
twelve-words b at = simp add_assoc

-- ---- tests

-- a field that is 0 unless a test holds
or-zero : (t : Bool) (v : ℕ) → t || eqb v 0 ≡ true → pick t v 0 ≡ v
or-zero true v e = refl
or-zero false v e = sym (eqb-true v 0 e)

pub pitch-or-zero : (t u : Bool) (v : ℕ) → pick t u (eqb v 0) ≡ true → pick t v 0 ≡ v
pitch-or-zero true u v e = refl
pitch-or-zero false u v e = sym (eqb-true v 0 e)

pub zero-anyway : (t : Bool) → ◌≡◌ {A = ℕ} (pick t 0 0) 0
zero-anyway true = refl
zero-anyway false = refl

none-unless : (t : Bool) (v : ℕ) → t ≡ false → ◌≡◌ {A = ℕ} (pick t v 0) 0
none-unless t v e = rw e

-- ---- one resource

module _ (b : List ℕ) (at : ℕ) where
  abbrev packed : ℕ
  packed = pick (backed (word b (at + 40))) (packed_size (saved_shape b at) (word b (at + 36))) 0

  -- by its kind it is one of two
  abbrev pub the_buffer : Resource
  the_buffer = resource_of (word b at) Buffer (long b (at + 8)) 0 (word b (at + 40)) (word b (at + 44))

  abbrev pub the_texture : Resource
  the_texture = resource_of (word b at) (Texture (saved_shape b at)) packed (word b (at + 36)) (word b (at + 40)) (word b (at + 44))

  pub is-the-buffer : is_buffer b at ≡ true → loaded_resource b at ≡ the_buffer
  unfolding loaded_resource
  is-the-buffer e = rw e

  pub is-the-texture : is_buffer b at ≡ false → loaded_resource b at ≡ the_texture
  unfolding loaded_resource
  is-the-texture e = rw e

  -- to say something of it, say it of both
  pub by_kind : (P : Resource → Type 0) → (is_buffer b at ≡ true → P the_buffer) → (is_buffer b at ≡ false → P the_texture) → P (loaded_resource b at)
  by_kind P f h = by_test (is_buffer b at) refl
    where
      by_test : (t : Bool) → is_buffer b at ≡ t → P (loaded_resource b at)
      by_test true e = subst P (sym (is-the-buffer e)) (f e)
      by_test false e = subst P (sym (is-the-texture e)) (h e)

module _ (b : List ℕ) (at before : ℕ) (g : GoodResource b at before) where
  pub its-handle : (loaded_resource b at).handle ≡ word b at
  its-handle = by_kind b at (λ (r : Resource). r.handle ≡ word b at) (λ e. refl) (λ e. refl)

  -- its one name is its lowest
  pub its-lowest : (loaded_resource b at).lowest ≡ (loaded_resource b at).handle
  its-lowest = by_kind b at (λ (r : Resource). r.lowest ≡ r.handle) (λ e. refl) (λ e. refl)

  abbrev kept_pitch : ℕ
  kept_pitch = pick (backed (word b (at + 40))) (word b (at + 36)) 0

  same-pitch : is_buffer b at ≡ false → kept_pitch ≡ word b (at + 36)
  same-pitch e = pitch-or-zero (backed (word b (at + 40))) _ (word b (at + 36)) (rw e at g.backing)

  shape-is-good : is_buffer b at ≡ false → good_shape (saved_shape b at) ≡ true
  shape-is-good e =
      sides-good (saved_shape b at)
      (record {
        format = rw e at g.format;
        width = rw e at g.width;
        height = rw e at g.height;
        mips = rw e at g.mips;
        layers = rw e at g.layers;
      })

  pub its-as-created : AsCreated (loaded_resource b at)
  its-as-created =
      by_kind b at AsCreated
      (λ e. record {
        bytes = eqb-false (long b (at + 8)) 0 (not-true _ (rw e at g.size-high));
        shape = zero-anyway (backed (word b (at + 40)));
        offset = none-unless (backed (word b (at + 40))) (word b (at + 44));
      })
      (λ e. record {
        bytes = ap (λ n. pick (backed (word b (at + 40))) (packed_size (saved_shape b at) n) 0) (sym (same-pitch e));
        shape = (shape-is-good e, ap (λ n. good_pitch (saved_shape b at) n (word b (at + 40))) (same-pitch e) ∙ rw e at g.backing);
        offset = none-unless (backed (word b (at + 40))) (word b (at + 44));
      })

  -- its fields are its words
  module _ (o : OfBytes b) where
    buffer-written : is_buffer b at ≡ true → resource_fields (the_buffer b at) ≡ words_at 12 b at
    buffer-written e =
        and_then refl
        (and_then (sym (eqb-true (word b (at + 4)) buffer_kind e))
        (and_then (low-of-long b (at + 8) o (omega (arith, g.whole)))
        (and_then (high-of-long b (at + 8) (at + 12) o (omega (arith, g.whole)) (omega arith))
        (and_then (sym (eqb-true (word b (at + 16)) 0 (rw e at g.format)))
        (and_then (sym (eqb-true (word b (at + 20)) 0 (rw e at g.width)))
        (and_then (sym (eqb-true (word b (at + 24)) 0 (rw e at g.height)))
        (and_then (sym (eqb-true (word b (at + 28)) 0 (rw e at g.mips)))
        (and_then (sym (eqb-true (word b (at + 32)) 0 (rw e at g.layers)))
        (and_then (zero-anyway (backed (word b (at + 40))) ∙ sym (eqb-true (word b (at + 36)) 0 (rw e at g.pitch)))
        (and_then refl
        (and_then (or-zero (backed (word b (at + 40))) (word b (at + 44)) g.offset) refl)))))))))))
        ∙ sym (twelve-words b at)

    texture-written : is_buffer b at ≡ false → resource_fields (the_texture b at) ≡ words_at 12 b at
    texture-written e =
        and_then refl
        (and_then (sym (eqb-true (word b (at + 4)) texture_kind (rw e at g.kind)))
        (and_then (sym (eqb-true (word b (at + 8)) 0 (rw e at g.size_low)))
        (and_then (sym (eqb-true (word b (at + 12)) 0 (rw e at g.size-high)))
        (and_then refl
        (and_then refl
        (and_then refl
        (and_then refl
        (and_then refl
        (and_then (same-pitch e)
        (and_then refl
        (and_then (or-zero (backed (word b (at + 40))) (word b (at + 44)) g.offset) refl)))))))))))
        ∙ sym (twelve-words b at)

    pub its-fields : resource_fields (loaded_resource b at) ≡ words_at 12 b at
    its-fields = by_kind b at (λ (r : Resource). resource_fields r ≡ words_at 12 b at) buffer-written texture-written

-- ---- all of them

pub length-loaded : (n : ℕ) (b : List ℕ) (at : ℕ) → length (loaded_resources n b at) ≡ n
unfolding loaded_resources
length-loaded zero b at = refl
length-loaded (suc n) b at = ap suc (length-loaded n b (at + resource_bytes))

-- "handles non-zero and rising"
pub loaded-rises : (n : ℕ) (b : List ℕ) (at before : ℕ) → GoodResources n b at before → Rises handle_of before (loaded_resources n b at)
unfolding loaded_resources GoodResources Rises
loaded-rises zero b at before g = omega arith
loaded-rises (suc n) b at before g =
    let e : (loaded_resource b at).handle ≡ word b at = its-handle b at before g.0 in
    let l : before < word b at = ltb-true before (word b at) g.0.handle in
    (omega arith, subst (λ k. Rises handle_of k (loaded_resources n b (at + resource_bytes))) (sym e) (loaded-rises n b (at + resource_bytes) (word b at) g.1))

pub loaded-as-created : (n : ℕ) (b : List ℕ) (at before : ℕ) → GoodResources n b at before → Every AsCreated (loaded_resources n b at)
unfolding loaded_resources GoodResources Every
loaded-as-created zero b at before g = every-none AsCreated
loaded-as-created (suc n) b at before g = (its-as-created b at before g.0, loaded-as-created n b (at + resource_bytes) (word b at) g.1)

-- each has one name
abbrev pub OneName : Resource → Type 0
OneName r = r.lowest ≡ r.handle

pub loaded-one-name : (n : ℕ) (b : List ℕ) (at before : ℕ) → GoodResources n b at before → Every OneName (loaded_resources n b at)
unfolding loaded_resources GoodResources Every
loaded-one-name zero b at before g = every-none OneName
loaded-one-name (suc n) b at before g = (its-lowest b at before g.0, loaded-one-name n b (at + resource_bytes) (word b at) g.1)

pub loaded-fields : (n : ℕ) (b : List ℕ) (at before : ℕ) → OfBytes b → GoodResources n b at before → resources_fields (loaded_resources n b at) ≡ words_at (12 * n) b at
unfolding loaded_resources GoodResources resources_fields words_at
loaded-fields zero b at before o g = refl
loaded-fields (suc n) b at before o g =
    let e : 12 * suc n ≡ 12 + 12 * n = omega arith in
    ap (λ x. x ++ resources_fields (loaded_resources n b (at + resource_bytes))) (its-fields b at before g.0 o)
    ∙ (ap (λ x. words_at 12 b at ++ x) (loaded-fields n b (at + resource_bytes) (word b at) o g.1)
    ∙ (sym (words-both 12 (12 * n) b at) ∙ ap (λ k. words_at k b at) (sym e)))
