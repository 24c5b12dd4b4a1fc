-- Create: each way that its code comes to an answer, as the rules' outcome. Assumes nothing.
use Rattle.std.specs.Prelude.{◌≡◌, refl, Bool, true, false, not, List, ℕ, eqb, None, Option, Some, is_some, unwrap_or}
use Rattle.std.proofs.Common.{sym, ap, ◌∙◌, rules, eq-eqb, ne_eqb}
use borrow.Author.Tests.{eqb-true}
use Rattle.machine.specs.Machine.{pick}
use Rattle.rules.specs.Shapes.{good_shape, good_backed, packed_size}
use Rattle.rules.specs.Packets.{backed, create, on_buffer_packet, on_texture_packet}
use Rattle.rules.specs.declared.CreateBuffer.{CreateBuffer}
use Rattle.rules.specs.declared.CreateTexture.{CreateTexture}
use Rattle.rules.specs.declared.Kind.TheVariants.{Buffer, Texture}
use Rattle.texture_sizes.specs.Packed.{good-by-size}
use Rattle.kept_entries.specs.Views.{entries_of}
use Rattle.kept_resources.specs.Views.{holdings_of}
use Rattle.packet_ranges.specs.Views.{Applies}
use Rattle.packet_ranges.specs.declared.applied.Applied.{Applied}

-- ---- backed_only, weigh

pub kept-zero : (b x : ℕ) → b ≡ 0 → 0 ≡ pick (backed b) x 0
kept-zero b x h = rw (eq-eqb _ _ h)

pub kept-as-is : (b x : ℕ) → (b ≡ 0 → ⊥) → x ≡ pick (backed b) x 0
kept-as-is b x h = rw (ne_eqb _ _ h)

pub ruleset keeping = (kept-zero, kept-as-is, rules)

-- what the rules ask of a texture's shape, with the bytes that they keep
unfoldable pub weighed : CreateTexture → Option ℕ
weighed c =
    pick (backed c.backing) (pick (good_backed c.shape c.pitch) (Some (packed_size c.shape c.pitch)) None)
    (pick (good_shape c.shape) (Some 0) None)

module _ (c : CreateTexture) where
  pub hosted-good : (good : Bool) → c.backing ≡ 0 → good ≡ good_shape c.shape → good ≡ true → Some 0 ≡ weighed c
  unfolding weighed
  hosted-good good h e t = rw (eq-eqb _ _ h, ← e, t)

  pub hosted-bad : (good : Bool) → c.backing ≡ 0 → good ≡ good_shape c.shape → good ≡ false → None ≡ weighed c
  unfolding weighed
  hosted-bad good h e f = rw (eq-eqb _ _ h, ← e, f)

  module _ (bytes : ℕ) (h : c.backing ≡ 0 → ⊥) (e : bytes ≡ packed_size c.shape c.pitch) where
    pub backed-none : bytes ≡ 0 → None ≡ weighed c
    unfolding weighed
    backed-none z = rw (ne_eqb _ _ h, good-by-size c.shape c.pitch, ← e, eq-eqb _ _ z)

    pub backed-some : (bytes ≡ 0 → ⊥) → Some bytes ≡ weighed c
    unfolding weighed
    backed-some n = rw (ne_eqb _ _ h, good-by-size c.shape c.pitch, ← e, ne_eqb _ _ n)

  -- the two together
  pub weighed-good : is_some (weighed c) ≡ pick (backed c.backing) (good_backed c.shape c.pitch) (good_shape c.shape)
  unfolding weighed
  weighed-good = by_tests (backed c.backing) (good_backed c.shape c.pitch) (good_shape c.shape)
    where
      by_tests : (a b g : Bool) → is_some (pick a (pick b (Some (packed_size c.shape c.pitch)) None) (pick g (Some 0) None)) ≡ pick a b g
      by_tests true true g = refl
      by_tests true false g = refl
      by_tests false b true = refl
      by_tests false b false = refl

  pub weighed-bytes : unwrap_or (weighed c) 0 ≡ pick (backed c.backing) (packed_size c.shape c.pitch) 0
  unfolding weighed
  weighed-bytes = rw (good-by-size c.shape c.pitch) (by_tests (backed c.backing) (good_shape c.shape) (eqb (packed_size c.shape c.pitch) 0) refl)
    where
      by_tests : (a g z : Bool) → eqb (packed_size c.shape c.pitch) 0 ≡ z
          → unwrap_or (pick a (pick (not z) (Some (packed_size c.shape c.pitch)) None) (pick g (Some 0) None)) 0 ≡ pick a (packed_size c.shape c.pitch) 0
      by_tests true g true e = sym (eqb-true (packed_size c.shape c.pitch) 0 e)
      by_tests true g false e = refl
      by_tests false true z e = refl
      by_tests false false z e = refl

pub ruleset weighing = (hosted-good, hosted-bad, backed-none, backed-some, rules)

-- ---- on_buffer, on_texture

-- a buffer has no pitch, wherever it is
pitchless : (t : Bool) → ◌≡◌ {A = ℕ} (pick t 0 0) 0
pitchless true = refl
pitchless false = refl

module _ (n live made offset : ℕ) (es resources records resources' records' : List ℕ) (a : Applied) where
  pub buffer-applies : (c : CreateBuffer) → offset ≡ pick (backed c.backing) c.offset 0
      → Applies (create (entries_of n es) (holdings_of live resources made records) (not (eqb c.size 0)) (record { handle = c.handle; kind = Buffer; bytes = c.size; pitch = 0; backing = c.backing; offset = offset; lowest = c.handle })) a resources' records'
      → Applies (on_buffer_packet (entries_of n es) (holdings_of live resources made records) c) a resources' records'
  unfolding on_buffer_packet
  buffer-applies c e f = rw (pitchless (backed c.backing), ← e) f

  pub texture-applies : (c : CreateTexture) (w : Option ℕ) (good : Bool) (bytes pitch : ℕ) → w ≡ weighed c → good ≡ is_some w → bytes ≡ unwrap_or w 0 → pitch ≡ pick (backed c.backing) c.pitch 0 → offset ≡ pick (backed c.backing) c.offset 0
      → Applies (create (entries_of n es) (holdings_of live resources made records) good (record { handle = c.handle; kind = Texture c.shape; bytes = bytes; pitch = pitch; backing = c.backing; offset = offset; lowest = c.handle })) a resources' records'
      → Applies (on_texture_packet (entries_of n es) (holdings_of live resources made records) c) a resources' records'
  unfolding on_texture_packet
  texture-applies c w good bytes pitch g x y p o f =
      let is_good : good ≡ pick (backed c.backing) (good_backed c.shape c.pitch) (good_shape c.shape) = x ∙ (ap is_some g ∙ weighed-good c) in
      let is-bytes : bytes ≡ pick (backed c.backing) (packed_size c.shape c.pitch) 0 = y ∙ (ap (λ (k : Option ℕ). unwrap_or k 0) g ∙ weighed-bytes c) in
      rw (← p, ← o) (rw (is_good, is-bytes) at f)

pub ruleset arriving = (buffer-applies, texture-applies, rules)
