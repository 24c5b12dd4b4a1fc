-- What a target and a scissor come to, a law for each end. Assumes nothing.
use Rattle.std.specs.Prelude.{◌≡◌, refl, Option, Some, None, Bool, true, false, List, [], ℕ, ◌+◌, ◌^◌, ◌≤◌, ◌<◌, ℤ, nat_abs}
use Rattle.std.proofs.Common.{sym, ◌∙◌, rules, to_z, of_z}
use Rattle.std.proofs.Math.Path.{ap}
use native.Mathlib.Omega.{arith}
use borrow.Author.Tests.{eq-eqb, ne_eqb, le-leb, lt-leb}
use Rattle.std.specs.Int.{w32}
use Rattle.std.specs.Int.Signed.{mag}
use Rattle.std.proofs.lemmas.Int.{to_z-of_z}
use Rattle.rules.specs.Numbers.{most, clips}
use Rattle.rules.specs.Lists.{Found, lookup, pushed}
use Rattle.rules.specs.Lists.Found.{none, found}
use Rattle.rules.specs.StatePackets.{negative, bad_sides, begins, common, rectangle, clip_of}
use Rattle.rules.specs.Packets.{Holdings, Outcome, refuse, accepted, full, recorded, handle_of, live_texture, on_target_packet, on_scissor_packet}
use Rattle.rules.specs.declared.Kind.TheVariants.{Buffer, Texture}
use Rattle.rules.specs.declared.Resource.{Resource}
use Rattle.rules.specs.declared.Record.{Record}
use Rattle.rules.specs.declared.Shape.{Shape}
use Rattle.rules.specs.declared.SetTarget.{SetTarget}
use Rattle.rules.specs.declared.SetScissor.{SetScissor}
use Rattle.rules.specs.declared.Refusal.TheVariants.{BadHandle, TooMany, BadState}
use Rattle.rows.specs.Rows.{row_at, length-table}
use Rattle.rows.specs.Keys.{place_of}
use Rattle.kept_resources.specs.Views.{record_of, records_of, resource_of_row, resources_of, holdings_of}
use Rattle.kept_resources.specs.Resources.{resource-place, resource-exists, resource-found, resource-missing}
use Rattle.packet_ranges.specs.Views.{Applies, refused_with}
use Rattle.packet_ranges.specs.Handout.{HandsOut, accepted_with}
use Rattle.packet_ranges.specs.declared.applied.Applied.{Applied}

-- ---- live_texture

-- what a handle names, by the live texture that has it
abbrev pub aimed_of : Found Shape → Option Shape
aimed_of none = None
aimed_of (found s) = Some s

module _ (live k : ℕ) (l : List ℕ) where
  pub aims-at-zero : k ≡ 0 → None ≡ aimed_of (live_texture k (holdings_of live l 0 []))
  unfolding live_texture
  aims-at-zero e = rw (eq-eqb _ _ e)

  module _ (n : k ≡ 0 → ⊥) (o : Option ℕ) (place : o ≡ place_of handle_of k (resources_of live l)) where
    pub aims-at-nothing : o ≡ None → None ≡ aimed_of (live_texture k (holdings_of live l 0 []))
    unfolding live_texture
    aims-at-nothing p = rw (ne_eqb _ _ n, resource-missing live k l o place p)

    module _ (i : ℕ) (at : o ≡ Some i) (r : Resource) (row : r ≡ resource_of_row (row_at 12 l i)) where
      here : lookup handle_of k (resources_of live l) ≡ found r
      here = resource-found live k l o place i at ∙ ap found (sym row)

      pub aims-at-buffer : r.kind ≡ Buffer → None ≡ aimed_of (live_texture k (holdings_of live l 0 []))
      unfolding live_texture
      aims-at-buffer e = rw (ne_eqb _ _ n, here, e)

      pub aims-at-texture : (s : Shape) → r.kind ≡ Texture s → Some s ≡ aimed_of (live_texture k (holdings_of live l 0 []))
      unfolding live_texture
      aims-at-texture s e = rw (ne_eqb _ _ n, here, e)

pub ruleset aiming = (resource-exists, aims-at-zero, aims-at-nothing, aims-at-buffer, aims-at-texture, rules)

aimed-none : (f : Found Shape) → aimed_of f ≡ None → f ≡ none
aimed-none none e = refl
aimed-none (found s) e = cc

aimed-found : (f : Found Shape) (s : Shape) → aimed_of f ≡ Some s → f ≡ found s
aimed-found none s e = cc
aimed-found (found r) s e = cc

-- which texture is live, whatever the records are
module _ (live k : ℕ) (resources : List ℕ) (x : Option Shape) (is : x ≡ aimed_of (live_texture k (holdings_of live resources 0 []))) (made : ℕ) (records : List ℕ) where
  no-texture : x ≡ None → live_texture k (holdings_of live resources made records) ≡ none
  unfolding live_texture
  no-texture told = aimed-none _ (sym is ∙ told)

  this-texture : (s : Shape) → x ≡ Some s → live_texture k (holdings_of live resources made records) ≡ found s
  unfolding live_texture
  this-texture s told = aimed-found _ s (sym is ∙ told)

-- ---- on_target

-- the records are not lent: the answer is the rules' outcome, whatever they are
pub record Targets (c : SetTarget) (live made : ℕ) (resources : List ℕ) (a : Applied) : Type 0 where
  pub applies : (records : List ℕ) → Applies (on_target_packet (holdings_of live resources made records) c) a resources records

module _ (c : SetTarget) (live made : ℕ) (resources : List ℕ) (room : (live ≤ most) × (made ≤ most))
    (x : Option Shape) (is : x ≡ aimed_of (live_texture c.handle (holdings_of live resources 0 []))) where
  pub targets-nothing : (a : Applied) → x ≡ None → a ≡ refused_with BadHandle live made → Targets c live made resources a
  unfolding on_target_packet
  targets-nothing a told e =
      rw e
      (record { applies = λ records. record { outcome = rw (no-texture live c.handle resources x is made records told); live = room.0; made = room.1 } })

  pub targets-texture : (s : Shape) → x ≡ Some s → Targets c live made resources (accepted_with live made)
  unfolding on_target_packet
  targets-texture s told =
      record { applies = λ records. record { outcome = rw (this-texture live c.handle resources x is made records s told); live = room.0; made = room.1 } }

pub ruleset targeting = (targets-nothing, targets-texture, rules)

-- ---- bad_sides, rectangle, clip_of

-- a signed number, read back from the bits that the machine has for it, is itself, since it fits
abbrev held : ℤ → ℤ
held x = to_z w32 (of_z w32 x)

held-is : (x : ℤ) → mag x < 2 ^ 31 → held x ≡ x
held-is x f = to_z-of_z w32 x (record { sfits = f })

module _ (c : SetScissor) (b : Bool) (is : b ≡ negative (held c.width)) (f : mag c.width < 2 ^ 31) where
  pub negative-width : b ≡ true → true ≡ bad_sides c
  unfolding bad_sides
  negative-width t = rw (← held-is c.width f, ← is, t)

  pub only-height : (e : Bool) → b ≡ false → e ≡ negative (held c.height) → mag c.height < 2 ^ 31 → e ≡ bad_sides c
  unfolding bad_sides
  only-height e t is' g = rw (← held-is c.width f, ← is, t) (is' ∙ ap negative (held-is c.height g))

pub rectangle-made : (left top width height w h : ℕ) → w ≡ width → h ≡ height → record { kind = clips; handle = left; id = top; gpa = w; length = h } ≡ rectangle left top width height
rectangle-made left top width height w h p q = rw (p, q)

module _ (s : Shape) (c : SetScissor) (w : ℕ) (wide : w ≡ common (held c.x) (nat_abs (held c.width)) s.width)
    (fx : mag c.x < 2 ^ 31) (fw : mag c.width < 2 ^ 31) where
  width_is : common c.x (nat_abs c.width) s.width ≡ w
  width_is = sym (rw (held-is c.x fx, held-is c.width fw) at wide)

  pub clip-of-no-width : (r : Record) → w ≡ 0 → r ≡ rectangle 0 0 0 0 → r ≡ clip_of s c
  unfolding clip_of
  clip-of-no-width r z e = rw (e, width_is, eq-eqb _ _ z)

  module _ (nw : w ≡ 0 → ⊥) (h : ℕ) (high : h ≡ common (held c.y) (nat_abs (held c.height)) s.height)
      (fy : mag c.y < 2 ^ 31) (fh : mag c.height < 2 ^ 31) where
    height-is : common c.y (nat_abs c.height) s.height ≡ h
    height-is = sym (rw (held-is c.y fy, held-is c.height fh) at high)

    pub clip-of-no-height : (r : Record) → h ≡ 0 → r ≡ rectangle 0 0 0 0 → r ≡ clip_of s c
    unfolding clip_of
    clip-of-no-height r z e = rw (e, width_is, ne_eqb _ _ nw, height-is, eq-eqb _ _ z)

    pub clip-of-some : (r : Record) (left top : ℕ) → (h ≡ 0 → ⊥) → left ≡ begins (held c.x) → top ≡ begins (held c.y) → r ≡ rectangle left top w h → r ≡ clip_of s c
    unfolding clip_of
    clip-of-some r left top nh p q e =
        rw (e, width_is, ne_eqb _ _ nw, height-is, ne_eqb _ _ nh, p, q, held-is c.x fx, held-is c.y fy)

pub ruleset measuring = (negative-width, only-height, rectangle-made, clip-of-no-width, clip-of-no-height, clip-of-some, rules)

-- ---- clip_to

-- the rules for a scissor once there is a target, with what is held as their last argument
unfoldable pub clipped : Shape → SetScissor → Holdings → Outcome
clipped s c h = refuse BadState (bad_sides c) h (refuse TooMany (full h.records) h (accepted (recorded (clip_of s c) h)))

module _ (s : Shape) (c : SetScissor) (live made : ℕ) (l : List ℕ) (room : (live ≤ most) × (made ≤ most)) (b : Bool) (is : b ≡ bad_sides c) where
  pub clips-badly : (a : Applied) → b ≡ true → a ≡ refused_with BadState live made → HandsOut (clipped s c) live made l a l
  unfolding clipped
  clips-badly a t e =
      rw e (record { applies = λ resources. record { outcome = rw (← is, t); live = room.0; made = room.1 } })

  module _ (t : b ≡ false) where
    pub clips-too-many : (a : Applied) → most ≤ made → a ≡ refused_with TooMany live made → HandsOut (clipped s c) live made l a l
    unfolding clipped
    clips-too-many a q e =
        rw e
        (record { applies = λ resources. record { outcome = rw (← is, t, length-table record_of 5 made l, le-leb _ _ q); live = room.0; made = room.1 } })

    pub clips-one : (m : List ℕ) (r : Record) → made < most → r ≡ clip_of s c → records_of (made + 1) m ≡ pushed (records_of made l) r
        → HandsOut (clipped s c) live made l (accepted_with live (made + 1)) m
    unfolding clipped
    clips-one m r q f e =
        record { applies = λ resources. record { outcome = rw (← is, t, length-table record_of 5 made l, lt-leb _ _ q, e, f); live = room.0; made = omega arith } }

pub ruleset clipping = (clips-badly, clips-too-many, clips-one, rules)

-- ---- on_scissor

module _ (live : ℕ) (resources : List ℕ) (made : ℕ) (records : List ℕ) (target : ℕ) (c : SetScissor) (room : (live ≤ most) × (made ≤ most))
    (x : Option Shape) (is : x ≡ aimed_of (live_texture target (holdings_of live resources 0 []))) where
  pub cuts_nothing : (a : Applied) → x ≡ None → a ≡ refused_with BadState live made
      → Applies (on_scissor_packet target (holdings_of live resources made records) c) a resources records
  unfolding on_scissor_packet
  cuts_nothing a told e =
      rw e
      (record { outcome = rw (no-texture live target resources x is made records told); live = room.0; made = room.1 })

  pub cuts-texture : (s : Shape) (a : Applied) (after : List ℕ) → x ≡ Some s → HandsOut (clipped s c) live made records a after
      → Applies (on_scissor_packet target (holdings_of live resources made records) c) a resources after
  unfolding on_scissor_packet clipped
  cuts-texture s a after told hands =
      rw (this-texture live target resources x is made records s told) (hands.applies resources)

pub ruleset cutting = (cuts_nothing, cuts-texture, rules)
