-- Fields of four bytes written one after the other: what their writer asks. Assumes nothing.
use Rattle.std.specs.Prelude.{◌≡◌, List, [], ◌∷◌, ◌++◌, take, drop}
use Rattle.std.proofs.Math.Path.{refl}
use Rattle.std.proofs.Common.{sym, ap, ◌∙◌, append_assoc, append-nil, add-zero, add-one, arith, rules, length-append, take-append-drop, length-take-le, take_all}
use Prim.Native.Nat.{ℕ, ◌+◌, ◌*◌, ◌-◌, ◌≤◌, ◌<◌}
use Rattle.std.proofs.Math.ListN.{length, get_or}
use Rattle.std.proofs.Math.Seq.{take-suc}
use Rattle.rules.specs.Bytes.{bytes_of}
use Rattle.rules.specs.Lists.{over}
use Rattle.words.specs.Over.{length_over, over-over}
use Rattle.words.specs.Fields.{length-bytes_of, put-part}
use Rattle.rules.specs.Saved.{file_of}

pub length-file : (vs : List ℕ) → length (file_of vs) ≡ 4 * length vs
unfolding file_of
length-file [] = refl
length-file (v ∷ vs) = rw (length-append, length-bytes_of) (omega (arith, length-file vs))

pub file-append : (xs ys : List ℕ) → file_of (xs ++ ys) ≡ file_of xs ++ file_of ys
unfolding file_of
file-append [] ys = refl
file-append (x ∷ xs) ys = rw (file-append xs ys, append_assoc)

-- fields that are written behind others
pub fields-behind : (start at : ℕ) (xs ys b m m' : List ℕ) → at ≡ start + length (file_of xs) → at + length (file_of ys) ≤ length b
    → m ≡ over start (file_of xs) b → m' ≡ over at (file_of ys) m → m' ≡ over start (file_of (xs ++ ys)) b
fields-behind start at xs ys b m m' e room p q =
    q ∙ rw (p, file-append xs ys) (over-over start at (file_of xs) (file_of ys) b (omega arith) e)

-- nothing written changes nothing
pub over_none : (at : ℕ) (l : List ℕ) → l ≡ over at [] l
unfolding over
over_none at l = rw add-zero (sym (take-append-drop at l))

module _ (at : ℕ) (fields l : List ℕ) (room : at + 4 * length fields ≤ length l) where
  pub fields-start : l ≡ over at (file_of (take 0 fields)) l
  unfolding file_of
  fields-start = over_none at l

  module _ (i : ℕ) (m : List ℕ) (part : m ≡ over at (file_of (take i fields)) l) where
    front : i ≤ length fields → length (file_of (take i fields)) ≡ 4 * i
    front h = length-file (take i fields) ∙ ap (λ n. 4 * n) (length-take-le i fields h)

    pub fields-length : i ≤ length fields → length m ≡ length l
    fields-length h = rw part (length_over at (file_of (take i fields)) l (omega (arith, front h)))

    pub field_room : i < length fields → at + 4 * i + 4 ≤ length m
    field_room h = omega (arith, fields-length (omega arith))

    pub fields-next : (last : List ℕ) → i < length fields
        → last ≡ over 0 (bytes_of 4 (get_or fields i 0)) (take (at + 4 * i + 4 - (at + 4 * i)) (drop (at + 4 * i) m))
        → take (at + 4 * i) m ++ (last ++ drop (at + 4 * i + 4 - (at + 4 * i)) (drop (at + 4 * i) m)) ≡ over at (file_of (take (i + 1) fields)) l
    unfolding file_of
    fields-next last h e =
        let v : ℕ = get_or fields i 0 in
        let one : file_of (take (i + 1) fields) ≡ file_of (take i fields) ++ bytes_of 4 v =
        rw (add-one, take-suc fields i 0 h, file-append, append-nil) in
        let far : at + length (file_of (take i fields)) + length (bytes_of 4 v) ≤ length l = rw (length-bytes_of, front (omega arith)) (omega arith) in
        put-part 4 (at + 4 * i) (at + 4 * i + 4) v m last refl (field_room h) e
        ∙ rw (one, part) (over-over at (at + 4 * i) (file_of (take i fields)) (bytes_of 4 v) l far (omega (arith, front (omega arith))))

    pub fields-end : i ≤ length fields → length fields ≤ i → m ≡ over at (file_of fields) l
    fields-end h q = part ∙ ap (λ x. over at (file_of x) l) (take_all i fields q)

pub ruleset writing_fields = (fields-start, fields-length, field_room, fields-next, fields-end, rules)
