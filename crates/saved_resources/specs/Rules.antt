-- The rules of a saved resource, said of its fields as they are read, by its kind; and that they are those of the file. Assumes nothing.
use Rattle.std.specs.Prelude.{◌≡◌, refl, Bool, true, false, not, ◌&&◌, ◌||◌, List, [], ◌∷◌, ◌++◌, ℕ, ◌+◌, ◌≤◌, eqb, ltb, length}
use Rattle.std.proofs.Common.{sym, ap, ◌∙◌, arith}
use Rattle.machine.specs.Machine.{pick}
use Rattle.rules.specs.Numbers.{longest_side, most_layers, buffer_kind, texture_kind}
use Rattle.rules.specs.Layouts.{word, long}
use Rattle.rules.specs.Shapes.{block_bytes, full_chain}
use Rattle.rules.specs.Packets.{backed}
use Rattle.rules.specs.declared.Shape.{Shape}
use Rattle.rules.specs.Loaded.{Rule, between, is_buffer, saved_shape, good_pitch, resource_rules}
use Rattle.saved_fields.specs.Judging.{rule, seen, same-rule, seen-there, zero-by-halves}
use Rattle.saved_resources.specs.declared.SavedResource.{SavedResource}

-- no resource stands further on than behind 64 of them: 92 + 48 * 64
abbrev pub furthest : ℕ
furthest = 3164

abbrev pub seen_resource : List ℕ → ℕ → SavedResource
seen_resource b at =
    record {
      handle = seen b at;
      kind = seen b (at + 4);
      low = seen b (at + 8);
      high = seen b (at + 12);
      shape = record { format = seen b (at + 16); width = seen b (at + 20); height = seen b (at + 24); mips = seen b (at + 28); layers = seen b (at + 32) };
      pitch = seen b (at + 36);
      backing = seen b (at + 40);
      offset = seen b (at + 44);
    }

-- the fields of a shape: where there is none, and where there is one
module _ (bytes at : ℕ) (s : Shape) where
  abbrev pub no_shape_rules : List Rule
  no_shape_rules =
      rule bytes (at + 16) (eqb s.format 0)
      ∷ rule bytes (at + 20) (eqb s.width 0)
      ∷ rule bytes (at + 24) (eqb s.height 0)
      ∷ rule bytes (at + 28) (eqb s.mips 0)
      ∷ rule bytes (at + 32) (eqb s.layers 0)
      ∷ []

  abbrev pub shape_rules : List Rule
  shape_rules =
      rule bytes (at + 16) (ltb 0 (block_bytes s.format))
      ∷ rule bytes (at + 20) (between 1 longest_side s.width)
      ∷ rule bytes (at + 24) (between 1 longest_side s.height)
      ∷ rule bytes (at + 28) (between 1 (full_chain s.width s.height) s.mips)
      ∷ rule bytes (at + 32) (between 1 most_layers s.layers)
      ∷ []

module _ (bytes at : ℕ) (s : SavedResource) where
  abbrev pub buffer_rules : List Rule
  buffer_rules =
      rule bytes (at + 8) true
      ∷ rule bytes (at + 12) (not (eqb s.low 0 && eqb s.high 0))
      ∷ (no_shape_rules bytes at s.shape ++ (rule bytes (at + 36) (eqb s.pitch 0) ∷ rule bytes (at + 40) true ∷ []))

  abbrev pub texture_rules : List Rule
  texture_rules =
      rule bytes (at + 8) (eqb s.low 0)
      ∷ rule bytes (at + 12) (eqb s.high 0)
      ∷ (shape_rules bytes at s.shape ++ (rule bytes (at + 36) true ∷ rule bytes (at + 40) (good_pitch s.shape s.pitch s.backing) ∷ []))

  abbrev pub fields_rules : ℕ → List Rule
  fields_rules before =
      rule bytes at (ltb before s.handle)
      ∷ rule bytes (at + 4) (eqb s.kind buffer_kind || eqb s.kind texture_kind)
      ∷ (pick (eqb s.kind buffer_kind) buffer_rules texture_rules ++ (rule bytes (at + 44) (backed s.backing || eqb s.offset 0) ∷ []))

  -- the same with the kind asked at each field, as the rules of a file have it; v is whether it is a buffer
  abbrev rules_by : Bool → ℕ → List Rule
  rules_by v before =
      rule bytes at (ltb before s.handle)
      ∷ rule bytes (at + 4) (v || eqb s.kind texture_kind)
      ∷ rule bytes (at + 8) (v || eqb s.low 0)
      ∷ rule bytes (at + 12) (pick v (not (eqb s.low 0 && eqb s.high 0)) (eqb s.high 0))
      ∷ rule bytes (at + 16) (pick v (eqb s.shape.format 0) (ltb 0 (block_bytes s.shape.format)))
      ∷ rule bytes (at + 20) (pick v (eqb s.shape.width 0) (between 1 longest_side s.shape.width))
      ∷ rule bytes (at + 24) (pick v (eqb s.shape.height 0) (between 1 longest_side s.shape.height))
      ∷ rule bytes (at + 28) (pick v (eqb s.shape.mips 0) (between 1 (full_chain s.shape.width s.shape.height) s.shape.mips))
      ∷ rule bytes (at + 32) (pick v (eqb s.shape.layers 0) (between 1 most_layers s.shape.layers))
      ∷ rule bytes (at + 36) (not v || eqb s.pitch 0)
      ∷ rule bytes (at + 40) (v || good_pitch s.shape s.pitch s.backing)
      ∷ rule bytes (at + 44) (backed s.backing || eqb s.offset 0)
      ∷ []

  by_kind : (before : ℕ) → rules_by (eqb s.kind buffer_kind) before ≡ fields_rules before
  by_kind before = by (eqb s.kind buffer_kind)
    where
      by : (v : Bool) → rules_by v before ≡
          (rule bytes at (ltb before s.handle)
          ∷ rule bytes (at + 4) (v || eqb s.kind texture_kind)
          ∷ (pick v buffer_rules texture_rules ++ (rule bytes (at + 44) (backed s.backing || eqb s.offset 0) ∷ [])))
      by true = refl
      by false = refl

-- ---- the rules of a file

also : {r q : Rule} {rs qs : List Rule} → r ≡ q → rs ≡ qs → ◌≡◌ {A = List Rule} (r ∷ rs) (q ∷ qs)
also e f = rw (e, f)

module _ (b : List ℕ) (at before : ℕ) where
  -- a field that is there is what is read
  f : (k : ℕ) → at + k + 4 ≤ length b → seen b (at + k) ≡ word b (at + k)
  f k h = seen-there b (at + k) h

  size-zero : at + 12 ≤ length b → eqb (long b (at + 8)) 0 ≡ (eqb (word b (at + 8)) 0 && eqb (word b (at + 12)) 0)
  size-zero h =
      let next : at + 8 + 4 ≡ at + 12 = omega arith in
      zero-by-halves b (at + 8) (omega arith) ∙ ap (λ k. eqb (word b (at + 8)) 0 && eqb (word b k) 0) next

  of-file : rules_by (length b) at (seen_resource b at) (eqb (seen b (at + 4)) buffer_kind) before ≡ resource_rules b at before
  of-file =
      also (same-rule (length b) at (ltb before (seen b at)) (ltb before (word b at)) (λ h. rw (seen-there b at h)))
      (also (same-rule (length b) (at + 4) (eqb (seen b (at + 4)) buffer_kind || eqb (seen b (at + 4)) texture_kind) (is_buffer b at || eqb (word b (at + 4)) texture_kind) (λ h. rw (f 4 h)))
      (also (same-rule (length b) (at + 8) (eqb (seen b (at + 4)) buffer_kind || eqb (seen b (at + 8)) 0) (is_buffer b at || eqb (word b (at + 8)) 0) (λ h. rw (f 4 (omega arith), f 8 h)))
      (also (same-rule (length b) (at + 12) (pick (eqb (seen b (at + 4)) buffer_kind) (not (eqb (seen b (at + 8)) 0 && eqb (seen b (at + 12)) 0)) (eqb (seen b (at + 12)) 0)) (pick (is_buffer b at) (not (eqb (long b (at + 8)) 0)) (eqb (word b (at + 12)) 0)) (λ h. rw (size-zero (omega arith), f 4 (omega arith), f 8 (omega arith), f 12 h)))
      (also (same-rule (length b) (at + 16) (pick (eqb (seen b (at + 4)) buffer_kind) (eqb (seen b (at + 16)) 0) (ltb 0 (block_bytes (seen b (at + 16))))) (pick (is_buffer b at) (eqb (word b (at + 16)) 0) (ltb 0 (block_bytes (word b (at + 16))))) (λ h. rw (f 4 (omega arith), f 16 h)))
      (also (same-rule (length b) (at + 20) (pick (eqb (seen b (at + 4)) buffer_kind) (eqb (seen b (at + 20)) 0) (between 1 longest_side (seen b (at + 20)))) (pick (is_buffer b at) (eqb (word b (at + 20)) 0) (between 1 longest_side (word b (at + 20)))) (λ h. rw (f 4 (omega arith), f 20 h)))
      (also (same-rule (length b) (at + 24) (pick (eqb (seen b (at + 4)) buffer_kind) (eqb (seen b (at + 24)) 0) (between 1 longest_side (seen b (at + 24)))) (pick (is_buffer b at) (eqb (word b (at + 24)) 0) (between 1 longest_side (word b (at + 24)))) (λ h. rw (f 4 (omega arith), f 24 h)))
      (also (same-rule (length b) (at + 28) (pick (eqb (seen b (at + 4)) buffer_kind) (eqb (seen b (at + 28)) 0) (between 1 (full_chain (seen b (at + 20)) (seen b (at + 24))) (seen b (at + 28)))) (pick (is_buffer b at) (eqb (word b (at + 28)) 0) (between 1 (full_chain (word b (at + 20)) (word b (at + 24))) (word b (at + 28)))) (λ h. rw (f 4 (omega arith), f 20 (omega arith), f 24 (omega arith), f 28 h)))
      (also (same-rule (length b) (at + 32) (pick (eqb (seen b (at + 4)) buffer_kind) (eqb (seen b (at + 32)) 0) (between 1 most_layers (seen b (at + 32)))) (pick (is_buffer b at) (eqb (word b (at + 32)) 0) (between 1 most_layers (word b (at + 32)))) (λ h. rw (f 4 (omega arith), f 32 h)))
      (also (same-rule (length b) (at + 36) (not (eqb (seen b (at + 4)) buffer_kind) || eqb (seen b (at + 36)) 0) (not (is_buffer b at) || eqb (word b (at + 36)) 0) (λ h. rw (f 4 (omega arith), f 36 h)))
      (also (same-rule (length b) (at + 40) (eqb (seen b (at + 4)) buffer_kind || good_pitch (seen_resource b at).shape (seen b (at + 36)) (seen b (at + 40))) (is_buffer b at || good_pitch (saved_shape b at) (word b (at + 36)) (word b (at + 40))) (λ h. rw (f 4 (omega arith), f 16 (omega arith), f 20 (omega arith), f 24 (omega arith), f 28 (omega arith), f 32 (omega arith), f 36 (omega arith), f 40 h)))
      (also (same-rule (length b) (at + 44) (backed (seen b (at + 40)) || eqb (seen b (at + 44)) 0) (backed (word b (at + 40)) || eqb (word b (at + 44)) 0) (λ h. rw (f 40 (omega arith), f 44 h)))
      refl)))))))))))

  pub file-resource : fields_rules (length b) at (seen_resource b at) before ≡ resource_rules b at before
  file-resource = sym (by_kind (length b) at (seen_resource b at) before) ∙ of-file
