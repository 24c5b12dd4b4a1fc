-- The theorems are of something: two devices that came about in different ways and keep their rows in another order are the same, are not equal, and answer the
-- same. Assumes nothing.
use Rattle.std.specs.Prelude.{◌≡◌, refl, Bool, true, false, List, [], ◌∷◌, ℕ, eqb}
use Rattle.std.proofs.Common.{sym, ap, ◌∙◌, arith, eqb-true}
use Rattle.machine.specs.Machine.{pick}
use Rattle.rules.specs.Lists.{Found, over, removed, lookup, index_of}
use Rattle.rules.specs.Lists.Found.{none, found}
use Rattle.rules.specs.Shapes.{block_bytes, halvings, full_chain, good_shape}
use Rattle.rules.specs.Names.{token_of, rename, rebind, lowest_left}
use Rattle.rules.specs.Packets.{create_hosted, create, on_buffer_packet, on_texture_packet, on_export_packet, bound, on_import_packet, handle_of, apply, Progress, Belongings, at_first, left_by, target_after, tokens_after, pass}
use Rattle.rules.specs.State.{State, made, nothing_owned}
use Rattle.rules.specs.State.Work.{resting}
use Rattle.rules.specs.Saved.{saved}
use Rattle.rules.specs.Loaded.{Loaded, call_load}
use Rattle.rules.specs.declared.Form.TheVariants.{Two}
use Rattle.rules.specs.declared.Shape.{Shape}
use Rattle.rules.specs.declared.Resource.{Resource}
use Rattle.rules.specs.declared.Token.{Token}
use Rattle.rules.specs.declared.Packet.{Packet}
use Rattle.rules.specs.declared.Packet.TheVariants.{Buffer, Texture, Export, Import}
use Rattle.rules.specs.declared.Kind.TheVariants.{Buffer as BufferKind, Texture as TextureKind}
use Rattle.promises_of_saving.specs.SameDevice.{SameDevice}
use Rattle.promises_of_saving.specs.Example.{shared_device, shared-is-loaded}
use Rattle.promises_of_same_desks.specs.Maps.{SameMap}

-- ---- packets one after the other

unfoldable pub held_after : Progress → List Packet → Progress
held_after h [] = h
held_after h (p ∷ ps) = held_after (pass [] h p).held ps

-- a new device that accepted those packets, and no others
unfoldable pub having : ℕ → List Packet → State
having memory ps = record { memory = memory; regs = (made memory).regs; belongings = left_by (held_after (at_first nothing_owned) ps); work = resting }

-- ---- the two devices: a texture that is called 3 and 5 and has tokens 7 and 8, and a buffer called 9

abbrev pub the_shape : Shape
the_shape = record { format = 1; width = 64; height = 32; mips = 1; layers = 1 }

abbrev pub textured : ℕ → Packet
textured k = Texture (record { handle = k; shape = the_shape; pitch = 0; backing = 0; offset = 0 })

abbrev pub buffered : Packet
buffered = Buffer (record { handle = 9; size = 4096; backing = 0; offset = 0 })

-- made as 5, then imported as 3
unfoldable pub one : State
one =
    having 65536
    (textured 5 ∷ buffered ∷ Export (record { handle = 5; token = 7 }) ∷ Import (record { handle = 3; token = 7 }) ∷ Export (record { handle = 3; token = 8 }) ∷ [])

-- made as 3, then imported as 5, after the buffer, and the tokens the other way round
unfoldable pub other : State
other =
    having 65536
    (buffered ∷ textured 3 ∷ Export (record { handle = 3; token = 8 }) ∷ Import (record { handle = 5; token = 8 }) ∷ Export (record { handle = 5; token = 7 }) ∷ [])

abbrev named : ℕ → Resource
named k = record { handle = k; kind = TextureKind the_shape; bytes = 0; pitch = 0; backing = 0; offset = 0; lowest = 3 }

abbrev the_buffer : Resource
the_buffer = record { handle = 9; kind = BufferKind; bytes = 4096; pitch = 0; backing = 0; offset = 0; lowest = 9 }

abbrev bound_as : ℕ → Token
bound_as n = record { name = 3; token = n }

one-is : one.belongings ≡ record { resources = named 5 ∷ the_buffer ∷ named 3 ∷ []; tokens = bound_as 7 ∷ bound_as 8 ∷ [] }
unfolding one having held_after lookup index_of removed over rename rebind lowest_left block_bytes halvings full_chain good_shape create_hosted create on_buffer_packet on_texture_packet on_export_packet bound on_import_packet apply target_after tokens_after pass
one-is = refl

other-is : other.belongings ≡ record { resources = the_buffer ∷ named 3 ∷ named 5 ∷ []; tokens = bound_as 8 ∷ bound_as 7 ∷ [] }
unfolding other having held_after lookup index_of removed over rename rebind lowest_left block_bytes halvings full_chain good_shape create_hosted create on_buffer_packet on_texture_packet on_export_packet bound on_import_packet apply target_after tokens_after pass
other-is = refl

-- ---- they are the same, and are not equal

same_names : SameMap handle_of (named 5 ∷ the_buffer ∷ named 3 ∷ []) (the_buffer ∷ named 3 ∷ named 5 ∷ [])
unfolding lookup
same_names k = by_tests (eqb 5 k) (eqb 9 k) (eqb 3 k) refl refl refl
  where
    by_tests : (a b c : Bool) → eqb 5 k ≡ a → eqb 9 k ≡ b → eqb 3 k ≡ c
        → ◌≡◌ {A = Found Resource} (pick a (found (named 5)) (pick b (found the_buffer) (pick c (found (named 3)) none))) (pick b (found the_buffer) (pick c (found (named 3)) (pick a (found (named 5)) none)))
    by_tests true true c e f g = absurd (omega (arith, eqb-true 5 k e, eqb-true 9 k f))
    by_tests true false true e f g = absurd (omega (arith, eqb-true 5 k e, eqb-true 3 k g))
    by_tests true false false e f g = refl
    by_tests false true c e f g = refl
    by_tests false false true e f g = refl
    by_tests false false false e f g = refl

same-tokens : SameMap token_of (bound_as 7 ∷ bound_as 8 ∷ []) (bound_as 8 ∷ bound_as 7 ∷ [])
unfolding lookup
same-tokens k = by_tests (eqb 7 k) (eqb 8 k) refl refl
  where
    by_tests : (a b : Bool) → eqb 7 k ≡ a → eqb 8 k ≡ b
        → ◌≡◌ {A = Found Token} (pick a (found (bound_as 7)) (pick b (found (bound_as 8)) none)) (pick b (found (bound_as 8)) (pick a (found (bound_as 7)) none))
    by_tests true true e f = absurd (omega (arith, eqb-true 7 k e, eqb-true 8 k f))
    by_tests true false e f = refl
    by_tests false true e f = refl
    by_tests false false e f = refl

pub two-ways-one-device : SameDevice one other
unfolding one other having
two-ways-one-device =
    record {
      memory = refl;
      regs = refl;
      resources = λ k.
          ap (λ (b : Belongings). lookup handle_of k b.resources) one-is ∙ (same_names k ∙ sym (ap (λ (b : Belongings). lookup handle_of k b.resources) other-is));
      tokens = λ k. ap (λ (b : Belongings). lookup token_of k b.tokens) one-is ∙ (same-tokens k ∙ sym (ap (λ (b : Belongings). lookup token_of k b.tokens) other-is));
      work = refl;
    }

first_handle : List Resource → ℕ
first_handle [] = 0
first_handle (r ∷ rs) = r.handle

pub two-ways-are-not-equal : one ≡ other → ⊥
unfolding first_handle
two-ways-are-not-equal e =
    let z : ◌≡◌ {A = ℕ} 5 9 =
    sym (ap (λ (b : Belongings). first_handle b.resources) one-is) ∙ (ap (λ (s : State). first_handle s.belongings.resources) e ∙ ap (λ (b : Belongings). first_handle b.resources) other-is) in
    omega arith

-- ---- a desk that was saved, and loaded by a new device: its first row is another

pub loaded-in-another-order : (call_load (made 0) (saved Two shared_device)).state ≡ shared_device → ⊥
unfolding first_handle
loaded-in-another-order e =
    let z : ◌≡◌ {A = ℕ} 3 7 =
    sym (ap (λ (l : Loaded). first_handle l.state.belongings.resources) shared-is-loaded) ∙ ap (λ (s : State). first_handle s.belongings.resources) e in
    omega arith
