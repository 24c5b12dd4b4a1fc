-- One unit over two memories that agree on what it lists: it comes to the same state and writes the same. Then the bytes on which they agreed agree
-- still. Assumes nothing.
use Rattle.std.specs.Prelude.{◌≡◌, refl, ℕ, ◌+◌, ◌≤◌, ◌<◌, length, take, drop, get_or}
use Rattle.std.proofs.Common.{sym, ap, ◌∙◌, arith, length-take, length-drop, get_or-take, get_or-drop, ext_get_or}
use mathlib.Core.List.{List, [], ◌∷◌}
use Rattle.std.proofs.Math.Nat.{min-le_left}
use Rattle.rules.specs.Layouts.{entry_layout}
use Rattle.rules.specs.Table.{entry_place, take_entry}
use Rattle.rules.specs.State.{State, World}
use Rattle.rules.specs.Listed.{placed, Named}
use Rattle.rules.specs.declared.Entry.{Entry}
use Rattle.rules.specs.declared.Table.{Table}
use Rattle.settle.specs.Only.{marked-length}
use Rattle.promises_of_packets.specs.Held.{Every}
use Rattle.promises_of_submissions.specs.LocalBytes.{Agree}
use Rattle.promises_of_submissions.specs.LocalWrites.{SameWrites, AgreeAt, same-writes-agree}
use Rattle.promises_of_submissions.specs.LocalWrites.SameWrites.{unwritten, settles}
use Rattle.promises_of_submissions.specs.Locality.{lent, SameEnd}
use Rattle.promises_of_submissions.specs.Reads.{AgreeOn, named-entry}

-- ---- one unit

pub listed-entry : (m m' : List ℕ) → length m ≡ length m' → (t : Table) (kept : List Entry) → AgreeOn m m' (placed (entry_place t (length kept)) entry_layout)
    → take_entry m t kept ≡ take_entry m' t kept
unfolding take_entry
listed-entry m m' len t kept same = rw (len, named-entry m m' (entry_place t (length kept)) same)

-- ---- what is written over both

-- two worlds that were lent m and m' have come to the same state; their memories are as long as each other, and a byte that differs in them differed in m and m'
pub record SameStill (m m' : List ℕ) (x x' : World) : Type 0 where
  pub state : x.state ≡ x'.state
  pub long : length x.mem ≡ length x'.mem
  pub still : (i : ℕ) → AgreeAt i m m' → AgreeAt i x.mem x'.mem

pub still-there : (s : State) (m m' : List ℕ) → length m ≡ length m' → SameStill m m' (lent s m) (lent s m')
still-there s m m' len = record { state = refl; long = len; still = λ i h. h }

pub still-on : {l l' m m' : List ℕ} {x x' : World} → ((i : ℕ) → AgreeAt i l l' → AgreeAt i m m') → SameStill m m' x x' → SameStill l l' x x'
still-on h k = record { state = k.state; long = k.long; still = λ i q. k.still i (h i q) }

pub end-still : (m m' : List ℕ) (x x' : World) → length m ≡ length m' → SameEnd m m' x x' → SameStill m m' x x'
end-still m m' x x' len end =
    record {
      state = end.state;
      long = by-writes x.mem x'.mem end.writes;
      still = λ i h. same-writes-agree i x.state.regs m m' x.mem x'.mem len h end.writes;
    }
  where
    by-writes : (n n' : List ℕ) → SameWrites x.state.regs m m' n n' → length n ≡ length n'
    by-writes n n' unwritten = len
    by-writes n n' (settles j) = marked-length j x.state.regs m ∙ (len ∙ sym (marked-length j x.state.regs m'))

-- ---- fields on which two memories agree, by their bytes

read_byte : (at w : ℕ) (l : List ℕ) (i : ℕ) → i < w → get_or (take w (drop at l)) i 0 ≡ get_or l (at + i) 0
read_byte at w l i h = get_or-take w (drop at l) i 0 h ∙ get_or-drop at l i 0

pub agree-bytes : (m m' : List ℕ) (at w : ℕ) → Agree m m' at w → (i : ℕ) → i < w → AgreeAt (at + i) m m'
agree-bytes m m' at w same i h = sym (read_byte at w m i h) ∙ (ap (λ (l : List ℕ). get_or l i 0) same ∙ read_byte at w m' i h)

pub bytes-agree : (n n' : List ℕ) → length n ≡ length n' → (at w : ℕ) → ((i : ℕ) → i < w → AgreeAt (at + i) n n') → Agree n n' at w
bytes-agree n n' long at w same = ext_get_or 0 (take w (drop at n)) (take w (drop at n')) (simp (length-take, length-drop, long)) by_byte
  where
    by_byte : (i : ℕ) → i < length (take w (drop at n)) → get_or (take w (drop at n)) i 0 ≡ get_or (take w (drop at n')) i 0
    by_byte i h =
        let few : length (take w (drop at n)) ≤ w = rw length-take (min-le_left w (length (drop at n))) in
        let in-it : i < w = omega arith in
        read_byte at w n i in-it ∙ (same i in-it ∙ sym (read_byte at w n' i in-it))

module _ (m m' n n' : List ℕ) (long : length n ≡ length n') (still : (i : ℕ) → AgreeAt i m m' → AgreeAt i n n') where
  pub still-agree : (at w : ℕ) → Agree m m' at w → Agree n n' at w
  still-agree at w same = bytes-agree n n' long at w (λ i h. still (at + i) (agree-bytes m m' at w same i h))

  pub still-agree-on : (fs : List Named) → AgreeOn m m' fs → AgreeOn n n' fs
  unfolding Every
  still-agree-on [] same = same
  still-agree-on (f ∷ fs) same = (still-agree f.at f.width same.0, still-agree-on fs same.1)
