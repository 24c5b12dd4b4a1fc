-- UNKNOWN is printed, and the strict setting stops, exactly at an opcode that is in no row of the table; and one short listing is worked out.
-- Assumes nothing.
use Rattle.std.specs.Prelude.{◌≡◌, Bool, true, false, List, [], ◌∷◌, ℕ, eqb}
use Rattle.std.proofs.Math.Path.{refl}
use Rattle.std.proofs.Common.{sym, subst, eqb-true}
use Prim.Native.String.{String}
use Rattle.std.proofs.lemmas.Bool.{eqb-false}
use lib.Text.{eqt}
use Rattle.machine.specs.Machine.{pick}
use Rattle.rules.specs.Numbers.{create_buffer, create_texture, destroy, dirty_range, copy_buffer, set_target, set_viewport, set_scissor, clear, export_surface, import_surface, release_token}
use Rattle.rules.specs.Bytes.{le}
use Rattle.rules.specs.Floats.{nan_among}
use Rattle.rules.specs.Headers.{wrong_header}
use Rattle.rules.specs.Layouts.{stream_header, viewport_floats, viewport_fields, clear_floats, clear_fields}
use Rattle.rules.specs.Lists.{Found}
use Rattle.rules.specs.Lists.Found.{none, found}
use Rattle.rules.specs.Stream.{known, unless_nan, least_size, packet_of, stream_rules, frame_of, frame_rules}
use Rattle.rules.specs.PacketRows.{PacketRow, packet_row, unknown-has-no-row}
use Rattle.rules.specs.Text.{ascii, hex, hex_digit, decimal, decimal_in}
use Rattle.rules.specs.Dump.{fields_text, opcode_text, line, line_in, is_unknown, listing, text_of, dump_of, lines_of, line_of, ending_text, listed}
use Rattle.rules.specs.declared.Packet.{Packet}
use Rattle.rules.specs.declared.Packet.TheVariants.{Viewport, Clear, NotANumber}
use Rattle.stream_opcodes.specs.Opcodes.{none-known}

abbrev pub in_no_row : Found PacketRow → Bool
in_no_row none = true
in_no_row (found k) = false

-- the name that is printed, and the text behind it
abbrev pub printed-name : Found PacketRow → String
printed-name none = "UNKNOWN"
printed-name (found k) = k.name

abbrev pub printed_fields : Found PacketRow → ℕ → List ℕ → List ℕ
printed_fields none op b = opcode_text op
printed_fields (found k) op b = fields_text k.layout b

pub line-has-name : (r : Found PacketRow) (at op size : ℕ) (b : List ℕ) → line_in r at op size b ≡ line at (printed-name r) size (printed_fields r op b)
line-has-name none at op size b = refl
line-has-name (found k) at op size b = refl

module _ (op : ℕ) where
  decide : (P : ℕ → Type 0) (c : ℕ) → P c → ((op ≡ c → ⊥) → P op) → P op
  decide P c this other = by_test (eqb op c) refl
    where
      by_test : (t : Bool) → eqb op c ≡ t → P op
      by_test true e = subst P (sym (eqb-true op c e)) this
      by_test false e = other (eqb-false op c e)

  -- a property of every row, and of none
  by_row : (P : ℕ → Type 0) → P create_buffer → P create_texture → P destroy → P dirty_range → P copy_buffer → P set_target → P set_viewport → P set_scissor → P clear → P export_surface → P import_surface → P release_token
      → (known op ≡ none → P op) → P op
  by_row P p1 p2 p3 p4 p5 p6 p7 p8 p9 p10 p11 p12 q =
      decide P create_buffer p1 (λ n1.
      decide P create_texture p2 (λ n2.
      decide P destroy p3 (λ n3.
      decide P dirty_range p4 (λ n4.
      decide P copy_buffer p5 (λ n5.
      decide P set_target p6 (λ n6.
      decide P set_viewport p7 (λ n7.
      decide P set_scissor p8 (λ n8.
      decide P clear p9 (λ n9.
      decide P export_surface p10 (λ n10.
      decide P import_surface p11 (λ n11.
      decide P release_token p12 (λ n12.
      q (none-known op n1 n2 n3 n4 n5 n6 n7 n8 n9 n10 n11 n12)))))))))))))

  -- "Unknown opcodes print UNKNOWN", and no other does
  pub unknown-exactly : eqt (printed-name (packet_row op)) "UNKNOWN" ≡ in_no_row (packet_row op)
  unfolding packet_row
  unknown-exactly =
      by_row (λ o. eqt (printed-name (packet_row o)) "UNKNOWN" ≡ in_no_row (packet_row o)) refl refl refl refl refl refl refl refl refl refl refl refl
      (λ e. rw (unknown-has-no-row op e))

  -- "the strict setting .. stops there", and nowhere else: a packet with a NaN is a known one
  module _ (b : List ℕ) where
    not-nan : (floats : List ℕ) (p : Packet) → is_unknown p ≡ false → is_unknown (unless_nan floats p) ≡ false
    not-nan floats p h = by_test (nan_among floats)
      where
        by_test : (t : Bool) → is_unknown (pick t NotANumber p) ≡ false
        by_test true = refl
        by_test false = h

    pub stops-exactly : is_unknown (packet_of op b) ≡ in_no_row (packet_row op)
    unfolding packet_of known packet_row
    stops-exactly =
        by_row (λ o. is_unknown (packet_of o b) ≡ in_no_row (packet_row o)) refl refl refl refl refl refl
        (not-nan (viewport_floats b) (Viewport (viewport_fields b)) refl) refl
        (not-nan (clear_floats b) (Clear (clear_fields b)) refl) refl refl refl
        (λ e. rw (unknown-has-no-row op e, e))

-- a listing worked out: a destroy of handle 4294967295, and four bytes, which are no packet
pub worked : listing
    (0
    ∷ 65 ∷ 67 ∷ 77 ∷ 68 ∷ 3 ∷ 0 ∷ 1 ∷ 0 ∷ 44 ∷ 0 ∷ 0 ∷ 0 ∷ 0 ∷ 0 ∷ 0 ∷ 0 ∷ 0 ∷ 0 ∷ 0 ∷ 0 ∷ 0 ∷ 0 ∷ 0 ∷ 0
    ∷ 2 ∷ 1 ∷ 0 ∷ 0 ∷ 16 ∷ 0 ∷ 0 ∷ 0 ∷ 255 ∷ 255 ∷ 255 ∷ 255 ∷ 0 ∷ 0 ∷ 0 ∷ 0
    ∷ 2 ∷ 1 ∷ 0 ∷ 0
    ∷ [])
    ≡ ascii "0x00000018 Destroy size_bytes=16 handle=4294967295\nerror=17\n"
unfolding listing text_of dump_of lines_of line_of ending_text listed line hex hex_digit decimal decimal_in stream_rules frame_of frame_rules least_size known packet_row packet_of stream_header le wrong_header
worked = refl
