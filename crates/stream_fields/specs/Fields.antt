-- What the readers of a packet's fields ask for. Assumes nothing.
use Rattle.std.specs.Prelude.{◌≡◌, refl, Bool, true, false, ◌||◌, List, [], ◌∷◌, ℕ, ℤ, Float}
use Rattle.std.proofs.Common.{sym, ◌∙◌, arith, rules}
use Rattle.rules.specs.Layouts.{word, long, buffer_fields, texture_fields, destroy_fields, dirty_fields, copy_fields, target_fields, viewport_floats, viewport_fields, signed, scissor_fields, clear_floats, clear_fields, export_fields, import_fields, release_fields}
use Rattle.rules.specs.Floats.{float_of, is_nan_bits, nan_among}
use Rattle.rules.specs.Stream.{unless_nan}
use Rattle.rules.specs.Lists.Found.{none}
use Rattle.rules.specs.declared.Shape.{Shape}
use Rattle.rules.specs.declared.CreateBuffer.{CreateBuffer}
use Rattle.rules.specs.declared.CreateTexture.{CreateTexture}
use Rattle.rules.specs.declared.DestroyResource.{DestroyResource}
use Rattle.rules.specs.declared.DirtyRange.{DirtyRange}
use Rattle.rules.specs.declared.CopyBuffer.{CopyBuffer}
use Rattle.rules.specs.declared.SetTarget.{SetTarget}
use Rattle.rules.specs.declared.SetScissor.{SetScissor}
use Rattle.rules.specs.declared.ExportSurface.{ExportSurface}
use Rattle.rules.specs.declared.ImportSurface.{ImportSurface}
use Rattle.rules.specs.declared.ReleaseToken.{ReleaseToken}
use Rattle.rules.specs.declared.Packet.TheVariants.{Viewport, Clear, NotANumber}

-- ---- the fields of each packet

module _ (b : List ℕ) where
  pub buffer-is : (h s k o : ℕ) → h ≡ word b 8 → s ≡ long b 16 → k ≡ word b 24 → o ≡ word b 28
      → ◌≡◌ {A = CreateBuffer} (record { handle = h; size = s; backing = k; offset = o }) (buffer_fields b)
  unfolding buffer_fields
  buffer-is h s k o p₁ p₂ p₃ p₄ = rw (p₁, p₂, p₃, p₄)

  pub shape_is : (f w h m l : ℕ) → f ≡ word b 16 → w ≡ word b 20 → h ≡ word b 24 → m ≡ word b 28 → l ≡ word b 32
      → ◌≡◌ {A = Shape} (record { format = f; width = w; height = h; mips = m; layers = l }) (texture_fields b).shape
  unfolding texture_fields
  shape_is f w h m l p₁ p₂ p₃ p₄ p₅ = rw (p₁, p₂, p₃, p₄, p₅)

  pub texture-is : (h p k o : ℕ) (s : Shape) → h ≡ word b 8 → s ≡ (texture_fields b).shape → p ≡ word b 36 → k ≡ word b 40 → o ≡ word b 44
      → ◌≡◌ {A = CreateTexture} (record { handle = h; shape = s; pitch = p; backing = k; offset = o }) (texture_fields b)
  unfolding texture_fields
  texture-is h p k o s p₁ p₂ p₃ p₄ p₅ = rw (p₁, p₂, p₃, p₄, p₅)

  pub destroy-is : (h : ℕ) → h ≡ word b 8 → ◌≡◌ {A = DestroyResource} (record { handle = h }) (destroy_fields b)
  unfolding destroy_fields
  destroy-is h p = rw p

  pub dirty-is : (h o s : ℕ) → h ≡ word b 8 → o ≡ long b 16 → s ≡ long b 24
      → ◌≡◌ {A = DirtyRange} (record { handle = h; offset = o; size = s }) (dirty_fields b)
  unfolding dirty_fields
  dirty-is h o s p₁ p₂ p₃ = rw (p₁, p₂, p₃)

  pub copy_is : (d s x y n f : ℕ) → d ≡ word b 8 → s ≡ word b 12 → x ≡ long b 16 → y ≡ long b 24 → n ≡ long b 32 → f ≡ word b 40
      → ◌≡◌ {A = CopyBuffer} (record { dst = d; src = s; dstoffset = x; srcoffset = y; size = n; flags = f }) (copy_fields b)
  unfolding copy_fields
  copy_is d s x y n f p₁ p₂ p₃ p₄ p₅ p₆ = rw (p₁, p₂, p₃, p₄, p₅, p₆)

  pub target_is : (h : ℕ) → h ≡ word b 8 → ◌≡◌ {A = SetTarget} (record { handle = h }) (target_fields b)
  unfolding target_fields
  target_is h p = rw p

  pub scissor-is : (x y w h : ℕ) (x' y' w' h' : ℤ) → x ≡ word b 8 → x' ≡ signed x → y ≡ word b 12 → y' ≡ signed y → w ≡ word b 16 → w' ≡ signed w → h ≡ word b 20
      → h' ≡ signed h → ◌≡◌ {A = SetScissor} (record { x = x'; y = y'; width = w'; height = h' }) (scissor_fields b)
  unfolding scissor_fields
  scissor-is x y w h x' y' w' h' p₁ q₁ p₂ q₂ p₃ q₃ p₄ q₄ = rw (q₁, q₂, q₃, q₄, p₁, p₂, p₃, p₄)

  pub export_is : (h t : ℕ) → h ≡ word b 8 → t ≡ long b 16 → ◌≡◌ {A = ExportSurface} (record { handle = h; token = t }) (export_fields b)
  unfolding export_fields
  export_is h t p₁ p₂ = rw (p₁, p₂)

  pub import-is : (h t : ℕ) → h ≡ word b 8 → t ≡ long b 16 → ◌≡◌ {A = ImportSurface} (record { handle = h; token = t }) (import_fields b)
  unfolding import_fields
  import-is h t p₁ p₂ = rw (p₁, p₂)

  pub release-is : (t : ℕ) → t ≡ long b 8 → ◌≡◌ {A = ReleaseToken} (record { token = t }) (release_fields b)
  unfolding release_fields
  release-is t p = rw p

pub ruleset reading_fields = (buffer-is, shape_is, texture-is, destroy-is, dirty-is, copy_is, target_is, scissor-is, export_is, import-is, release-is, rules)

-- ---- packets with floats

-- any_nan: the first that is one, or none
module _ (a b c d e : ℕ) where
  pub nan-1 : (x : Bool) → x ≡ is_nan_bits a → x ≡ true → true ≡ nan_among (a ∷ b ∷ c ∷ d ∷ e ∷ [])
  nan-1 x p t = rw (← p, t)

  module _ (x : Bool) (p : x ≡ is_nan_bits a) (f : x ≡ false) where
    pub nan-2 : (y : Bool) → y ≡ is_nan_bits b → y ≡ true → true ≡ nan_among (a ∷ b ∷ c ∷ d ∷ e ∷ [])
    nan-2 y q t = rw (← p, f, ← q, t)

    module _ (y : Bool) (q : y ≡ is_nan_bits b) (g : y ≡ false) where
      pub nan-3 : (z : Bool) → z ≡ is_nan_bits c → z ≡ true → true ≡ nan_among (a ∷ b ∷ c ∷ d ∷ e ∷ [])
      nan-3 z r t = rw (← p, f, ← q, g, ← r, t)

      module _ (z : Bool) (r : z ≡ is_nan_bits c) (h : z ≡ false) where
        pub nan-4 : (u : Bool) → u ≡ is_nan_bits d → u ≡ true → true ≡ nan_among (a ∷ b ∷ c ∷ d ∷ e ∷ [])
        nan-4 u s t = rw (← p, f, ← q, g, ← r, h, ← s, t)

        pub nan-5 : (u v : Bool) → u ≡ is_nan_bits d → u ≡ false → v ≡ is_nan_bits e → v ≡ nan_among (a ∷ b ∷ c ∷ d ∷ e ∷ [])
        nan-5 u v s i w = rw (← p, f, ← q, g, ← r, h, ← s, i, ← w) (or-none v)
          where
            or-none : (k : Bool) → k ≡ k || false
            or-none true = refl
            or-none false = refl

pub ruleset finding_nan = (nan-1, nan-2, nan-3, nan-4, nan-5, rules)

-- where none of five is one, none of them is
module _ (a b c d e : ℕ) (x : Bool) (is : x ≡ nan_among (a ∷ b ∷ c ∷ d ∷ e ∷ [])) (none_is : x ≡ false) where
  or_left : (p q : Bool) → p || q ≡ false → p ≡ false
  or_left true q h = h
  or_left false q h = refl

  or_right : (p q : Bool) → p || q ≡ false → q ≡ false
  or_right true q h = absurd (let z : ◌≡◌ {A = ℕ} 0 1 = cc in omega arith)
  or_right false q h = h

  pub number-1 : is_nan_bits a ≡ false
  number-1 = or_left _ _ (sym is ∙ none_is)

  pub number-2 : is_nan_bits b ≡ false
  number-2 = or_left _ _ (or_right (is_nan_bits a) _ (sym is ∙ none_is))

  pub number-3 : is_nan_bits c ≡ false
  number-3 = or_left _ _ (or_right (is_nan_bits b) _ (or_right (is_nan_bits a) _ (sym is ∙ none_is)))

  pub number-4 : is_nan_bits d ≡ false
  number-4 = or_left _ _ (or_right (is_nan_bits c) _ (or_right (is_nan_bits b) _ (or_right (is_nan_bits a) _ (sym is ∙ none_is))))

  pub number-5 : is_nan_bits e ≡ false
  number-5 = or_left _ _ (or_right (is_nan_bits d) _ (or_right (is_nan_bits c) _ (or_right (is_nan_bits b) _ (or_right (is_nan_bits a) _ (sym is ∙ none_is)))))

pub one_number : (a : ℕ) (x : Bool) → x ≡ is_nan_bits a → x ≡ false → is_nan_bits a ≡ false
one_number a x is h = sym is ∙ h

pub ruleset being_numbers = (one_number, number-1, number-2, number-3, number-4, number-5, rules)

module _ (s : List ℕ) (x y w h n f : ℕ) (p₁ : x ≡ word s 8) (p₂ : y ≡ word s 12) (p₃ : w ≡ word s 16) (p₄ : h ≡ word s 20) (p₅ : n ≡ word s 24) (p₆ : f ≡ word s 28)
    (u : Bool) (is-u : u ≡ is_nan_bits x) where
  pub viewport-first-nan : u ≡ true → NotANumber ≡ unless_nan (viewport_floats s) (Viewport (viewport_fields s))
  viewport-first-nan t = rw (← p₁, ← is-u, t)

  module _ (no : u ≡ false) (v : Bool) (is-v : v ≡ nan_among (y ∷ w ∷ h ∷ n ∷ f ∷ [])) where
    among : nan_among (viewport_floats s) ≡ v
    among = rw (← p₁, ← p₂, ← p₃, ← p₄, ← p₅, ← p₆, ← is-u, no) (sym is-v)

    pub viewport-nan : v ≡ true → NotANumber ≡ unless_nan (viewport_floats s) (Viewport (viewport_fields s))
    viewport-nan t = rw (among, t)

    pub viewport-is : (x' y' w' h' n' f' : Float) → v ≡ false → x' ≡ float_of x → y' ≡ float_of y → w' ≡ float_of w → h' ≡ float_of h → n' ≡ float_of n → f' ≡ float_of f
        → Viewport (record { x = x'; y = y'; width = w'; height = h'; near = n'; far = f' }) ≡ unless_nan (viewport_floats s) (Viewport (viewport_fields s))
    unfolding viewport_fields
    viewport-is x' y' w' h' n' f' t q₁ q₂ q₃ q₄ q₅ q₆ = rw (among, t, q₁, q₂, q₃, q₄, q₅, q₆, p₁, p₂, p₃, p₄, p₅, p₆)

pub ruleset reading_viewport = (viewport-first-nan, viewport-nan, viewport-is, rules)

module _ (s : List ℕ) (k r g b a d t : ℕ) (p₀ : k ≡ word s 8) (p₁ : r ≡ word s 12) (p₂ : g ≡ word s 16) (p₃ : b ≡ word s 20) (p₄ : a ≡ word s 24) (p₅ : d ≡ word s 28) (p₆ : t ≡ word s 32)
    (v : Bool) (is-v : v ≡ nan_among (r ∷ g ∷ b ∷ a ∷ d ∷ [])) where
  colours : nan_among (clear_floats s) ≡ v
  colours = rw (← p₁, ← p₂, ← p₃, ← p₄, ← p₅) (sym is-v)

  pub clear-nan : v ≡ true → NotANumber ≡ unless_nan (clear_floats s) (Clear (clear_fields s))
  clear-nan e = rw (colours, e)

  pub clear-is : (r' g' b' a' d' : Float) → v ≡ false → r' ≡ float_of r → g' ≡ float_of g → b' ≡ float_of b → a' ≡ float_of a → d' ≡ float_of d
      → Clear (record { flags = k; red = r'; green = g'; blue = b'; alpha = a'; depth = d'; stencil = t }) ≡ unless_nan (clear_floats s) (Clear (clear_fields s))
  unfolding clear_fields
  clear-is r' g' b' a' d' e q₁ q₂ q₃ q₄ q₅ = rw (colours, e, q₁, q₂, q₃, q₄, q₅, p₀, p₁, p₂, p₃, p₄, p₅, p₆)

pub ruleset reading_clear = (clear-nan, clear-is, rules)
