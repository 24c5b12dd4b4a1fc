-- How long a line is at most: 326 bytes, and ten times the bytes of its packet. Assumes nothing.
use Rattle.std.specs.Prelude.{◌≡◌, Bool, true, false, List, [], ◌∷◌, ℕ, suc, ◌+◌, ◌-◌, ◌*◌, ◌≤◌, eqb, ltb, pos, negsuc, length, take, drop, Err, Ok}
use Rattle.std.proofs.Math.Path.{refl}
use Prim.Native.String.{String}
use native.Mathlib.Omega.{arith}
use Rattle.std.proofs.Common.{eqb-true, length-append}
use Rattle.std.proofs.lemmas.Bool.{eqb-false}
use Rattle.std.proofs.Math.Dec.{lit≤}
use Rattle.machine.specs.Machine.{pick}
use Rattle.rules.specs.Numbers.{create_buffer, create_texture, destroy, dirty_range, copy_buffer, set_target, set_viewport, set_scissor, clear, export_surface, import_surface, release_token}
use Rattle.rules.specs.Fields.{Field, FieldType, number_of}
use Rattle.rules.specs.Fields.FieldType.{U32, U64, F32, I32}
use Rattle.rules.specs.Layouts.{signed}
use Rattle.rules.specs.Lists.{Found}
use Rattle.rules.specs.Lists.Found.{none, found}
use Rattle.rules.specs.Stream.{bytes_in, least_size, frame_of, packet_of, Frame}
use Rattle.rules.specs.PacketRows.{PacketRow, packet_row, known_of, known-is-packet-row, unknown-has-no-row}
use Rattle.rules.specs.Text.{ascii, signed_decimal}
use Rattle.rules.specs.Dump.{number_text, fields_text, opcode_text, line, line_in, ending_text, stops}
use Rattle.rules.specs.Dump.Ending.{refused}
use Rattle.rules.specs.declared.Refusal.{Refusal}
use Rattle.stream_opcodes.specs.Opcodes.{none-known}
use Rattle.text_numbers.specs.Numbers.{hex-length}
use Rattle.text_numbers.specs.Digits.{decimal-length}
use Rattle.dump_next.specs.Rest.{line_by, next_line}
use Rattle.rules.specs.Judging.{error_number}

-- ---- a line

-- a number has 21 characters at most
signed-short : (n : ℕ) → length (signed_decimal (signed n)) ≤ 21
unfolding signed
signed-short n = by_test (ltb n 2147483648)
  where
    by_test : (t : Bool) → length (signed_decimal (pick t (pos n) (negsuc (4294967295 - n)))) ≤ 21
    by_test true = omega (arith, decimal-length n)
    by_test false = omega (arith, decimal-length (suc (4294967295 - n)))

number_short : (t : FieldType) (n : ℕ) → length (number_text t n) ≤ 21
number_short U32 n = omega (arith, decimal-length n)
number_short U64 n = omega (arith, decimal-length n)
number_short F32 n = omega (arith, decimal-length n)
number_short I32 n = signed-short n

-- a line of this name and these fields
abbrev pub widest_fields : List Field → ℕ
widest_fields [] = 1
widest_fields (f ∷ fs) = 23 + length (ascii f.name) + widest_fields fs

fields-bound : (fs : List Field) (b : List ℕ) → length (fields_text fs b) ≤ widest_fields fs
fields-bound [] b = omega arith
fields-bound (f ∷ fs) b = simp length-append (omega (arith, number_short f.type (number_of f b 0), fields-bound fs b))

line-bound : (at : ℕ) (name : String) (size : ℕ) (later : List ℕ) (n : ℕ) → length later ≤ n → length (line at name size later) ≤ 43 + length (ascii name) + n
unfolding line
line-bound at name size later n h = simp (length-append, hex-length) (omega (arith, decimal-length size))

opcode-bound : (op : ℕ) → length (opcode_text op) ≤ 30
opcode-bound op = simp length-append (omega (arith, decimal-length op))

-- ---- the table's rows

abbrev pub longest_line : ℕ
longest_line = 326

abbrev pub widest_in : Found PacketRow → ℕ
widest_in none = 80
widest_in (found k) = 43 + length (ascii k.name) + widest_fields k.layout

line-in-bound : (r : Found PacketRow) (at op size : ℕ) (b : List ℕ) → length (line_in r at op size b) ≤ widest_in r
line-in-bound none at op size b = line-bound at "UNKNOWN" size (opcode_text op) 30 (opcode-bound op)
line-in-bound (found k) at op size b = line-bound at k.name size (fields_text k.layout b) (widest_fields k.layout) (fields-bound k.layout b)

record Fair (r : Found PacketRow) : Type 0 where
  short : widest_in r ≤ longest_line
  ratio : (size : ℕ) → 8 ≤ size → bytes_in (known_of r) ≤ size → widest_in r ≤ 10 * size

-- a row that is this one, by its two numbers
module _ (r : Found PacketRow) (wide bytes : ℕ) (is : widest_in r ≡ wide) (has : bytes_in (known_of r) ≡ bytes) where
  fair : wide ≤ longest_line → wide ≤ 10 * bytes → Fair r
  fair s t = record { short = rw is s; ratio = λ size h l. rw is (omega (arith, has)) }

module _ (op : ℕ) where
  decide : (c : ℕ) → Fair (packet_row c) → ((op ≡ c → ⊥) → Fair (packet_row op)) → Fair (packet_row op)
  decide c this other = by_test (eqb op c) refl
    where
      by_test : (t : Bool) → eqb op c ≡ t → Fair (packet_row op)
      by_test true e = rw (eqb-true op c e) this
      by_test false e = other (eqb-false op c e)

  known-fair : Fair (packet_row op)
  unfolding packet_row
  known-fair =
      decide create_buffer (fair _ _ _ refl refl (lit≤ tt) (lit≤ tt)) (λ n1.
      decide create_texture (fair _ _ _ refl refl (lit≤ tt) (lit≤ tt)) (λ n2.
      decide destroy (fair _ _ _ refl refl (lit≤ tt) (lit≤ tt)) (λ n3.
      decide dirty_range (fair _ _ _ refl refl (lit≤ tt) (lit≤ tt)) (λ n4.
      decide copy_buffer (fair _ _ _ refl refl (lit≤ tt) (lit≤ tt)) (λ n5.
      decide set_target (fair _ _ _ refl refl (lit≤ tt) (lit≤ tt)) (λ n6.
      decide set_viewport (fair _ _ _ refl refl (lit≤ tt) (lit≤ tt)) (λ n7.
      decide set_scissor (fair _ _ _ refl refl (lit≤ tt) (lit≤ tt)) (λ n8.
      decide clear (fair _ _ _ refl refl (lit≤ tt) (lit≤ tt)) (λ n9.
      decide export_surface (fair _ _ _ refl refl (lit≤ tt) (lit≤ tt)) (λ n10.
      decide import_surface (fair _ _ _ refl refl (lit≤ tt) (lit≤ tt)) (λ n11.
      decide release_token (fair _ _ _ refl refl (lit≤ tt) (lit≤ tt)) (λ n12.
      rw (unknown-has-no-row op (none-known op n1 n2 n3 n4 n5 n6 n7 n8 n9 n10 n11 n12)) (record { short = lit≤ tt; ratio = λ size h l. omega arith })))))))))))))

-- ---- a packet

pub packet-bound : (op at size : ℕ) (b : List ℕ) → least_size op ≤ size → 8 ≤ size → length (line_in (packet_row op) at op size b) ≤ 10 * size
unfolding least_size
packet-bound op at size b least head =
    omega (arith, line-in-bound (packet_row op) at op size b, (known-fair op).ratio size head (rw (known-is-packet-row op) at least))

pub stopped-bound : (at op size : ℕ) → length (line at "STOPPED" size (opcode_text op)) ≤ 80
stopped-bound at op size = line-bound at "STOPPED" size (opcode_text op) 30 (opcode-bound op)

pub error-bound : (r : Refusal) → length (ending_text (refused r)) ≤ 27
unfolding ending_text
error-bound r = simp length-append (omega (arith, decimal-length (error_number r)))

-- ---- the next line

module _ (strict : Bool) where
  by-short : (at : ℕ) (f : Frame) (b : List ℕ) → length (line_by strict at f b) ≤ longest_line
  by-short at (Ok (op, size)) b = by-stop (stops strict (packet_of op (take size b)))
    where
      by-stop : (t : Bool) → length (pick t (line at "STOPPED" size (opcode_text op)) (line_in (packet_row op) at op size (take size b))) ≤ longest_line
      by-stop true = omega (arith, stopped-bound at op size)
      by-stop false = omega (arith, line-in-bound (packet_row op) at op size (take size b), (known-fair op).short)
  by-short at (Err r) b = omega (arith, error-bound r)

  pub next-short : (s : List ℕ) (at : ℕ) → length (next_line strict s at) ≤ longest_line
  unfolding next_line
  next-short s at = by-short at (frame_of (drop at s)) (drop at s)
