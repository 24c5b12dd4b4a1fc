-- A pattern with its numbers, and the laws that its writer asks for. Assumes nothing.
use Rattle.std.specs.Prelude.{◌≡◌, refl, Bool, true, false, ℕ, suc, ◌+◌, ◌-◌, ◌≤◌, ◌<◌, ◌^◌, eqb, length, get_or, set}
use Rattle.std.proofs.Common.{sym, ◌∙◌, add-one, rules, Fits, length-set, drop-cons}
use mathlib.Core.List.{List, [], ◌∷◌, ◌++◌}
use Rattle.std.proofs.Math.Nat.{add-zero}
use native.Mathlib.Omega.{arith}
use borrow.Author.Tests.{lt-ltb, le-ltb, ne_eqb}
use Rattle.std.specs.Int.{w64}
use Rattle.std.proofs.Math.ListN.{drop, get_or-eq_default, drop_of_length-le}
use Rattle.std.proofs.Math.Seq.{drop-drop, get_or-drop}
use Rattle.machine.specs.Machine.{pick}
use Rattle.rules.specs.Layouts.{signed}
use Rattle.rules.specs.Text.{ascii, hex, decimal, signed_decimal}
use Rattle.text_numbers.specs.Writing.{Puts, puts_one, puts-both, Writes, writes_start, writes_end, writes-length, writes-room, writes-next}
use Rattle.text_numbers.specs.Numbers.{hex-length}

-- the marks
abbrev pub in_decimal : ℕ
in_decimal = 37

abbrev pub in_hex : ℕ
in_hex = 35

abbrev pub in_signed : ℕ
in_signed = 126

-- what a byte of a pattern says, and how many numbers it takes
unfoldable pub piece : ℕ → ℕ → List ℕ
piece c v =
    pick (eqb c in_decimal) (decimal v) (pick (eqb c in_hex) (hex 8 v) (pick (eqb c in_signed) (signed_decimal (signed v)) (c ∷ [])))

unfoldable pub takes : ℕ → ℕ
takes c = pick (eqb c in_decimal) 1 (pick (eqb c in_hex) 1 (pick (eqb c in_signed) 1 0))

unfoldable pub filled : List ℕ → List ℕ → List ℕ
filled [] vs = []
filled (c ∷ cs) vs = piece c (get_or vs 0 0) ++ filled cs (drop (takes c) vs)

-- ---- below_zero, put_signed

unfoldable pub less_than_zero : ℕ → ℕ
less_than_zero w = suc (4294967295 - w)

module _ (w : ℕ) where
  pub less-beyond : 4294967295 < w → 1 ≡ less_than_zero w
  unfolding less_than_zero
  less-beyond h = omega arith

  pub less-within : w ≤ 4294967295 → 4294967295 - w + 1 ≡ less_than_zero w
  unfolding less_than_zero
  less-within h = omega arith

  not_negative : w < 2147483648 → signed_decimal (signed w) ≡ decimal w
  unfolding signed
  not_negative h = rw (lt-ltb w 2147483648 h)

  negative : 2147483648 ≤ w → signed_decimal (signed w) ≡ ascii "-" ++ decimal (less_than_zero w)
  unfolding signed less_than_zero
  negative h = rw (le-ltb w 2147483648 h)

  module _ (at : ℕ) (b : List ℕ) (room : at + length (signed_decimal (signed w)) ≤ length b) where
    pub plain-room : w < 2147483648 → at + length (decimal w) ≤ length b
    plain-room h = rw (not_negative h) at room

    pub plain-put : w < 2147483648 → (end : ℕ) (m : List ℕ) → Puts at (decimal w) b end m → Puts at (signed_decimal (signed w)) b end m
    plain-put h end m p = rw (not_negative h) p

    module _ (h : 2147483648 ≤ w) where
      negative-room : at + suc (length (decimal (less_than_zero w))) ≤ length b
      negative-room = rw (negative h) at room

      pub sign-room : at < length b
      sign-room = omega (arith, negative-room)

      pub behind-room : (n : ℕ) → n ≡ less_than_zero w → at + 1 + length (decimal n) ≤ length (set b at 45)
      behind-room n e = rw e (simp length-set (omega (arith, negative-room)))

      pub behind-put : (n : ℕ) → n ≡ less_than_zero w → (end : ℕ) (m : List ℕ) → Puts (at + 1) (decimal n) (set b at 45) end m → Puts at (signed_decimal (signed w)) b end m
      behind-put n e end m p =
          rw (negative h, ← e)
          (puts-both at b (ascii "-") (at + 1) (set b at 45) (puts_one at b 45 (omega (arith, negative-room))) (decimal n) end m (rw e negative-room) p)

pub set-kept : (v at : ℕ) (b m : List ℕ) → length m ≡ length (set b at v) → length m ≡ length b
set-kept v at b m e = simp length-set at e

pub ruleset writing_signed = (set-kept, less-beyond, less-within, plain-room, plain-put, sign-room, behind-room, behind-put, rules)

-- ---- takes, put_piece

module _ (c : ℕ) where
  pub takes-decimal : c ≡ in_decimal → 1 ≡ takes c
  unfolding takes
  takes-decimal e = rw e

  pub takes-hex : c ≡ in_hex → 1 ≡ takes c
  unfolding takes
  takes-hex e = rw e

  pub takes-signed : c ≡ in_signed → 1 ≡ takes c
  unfolding takes
  takes-signed e = rw e

  pub takes_none : (c ≡ in_decimal → ⊥) → (c ≡ in_hex → ⊥) → (c ≡ in_signed → ⊥) → 0 ≡ takes c
  unfolding takes
  takes_none n₁ n₂ n₃ = rw (ne_eqb c in_decimal n₁, ne_eqb c in_hex n₂, ne_eqb c in_signed n₃)

  module _ (v at : ℕ) (b : List ℕ) (room : at + length (piece c v) ≤ length b) where
    is-decimal : c ≡ in_decimal → piece c v ≡ decimal v
    unfolding piece
    is-decimal e = rw e

    is-hex : c ≡ in_hex → piece c v ≡ hex 8 v
    unfolding piece
    is-hex e = rw e

    is_signed : c ≡ in_signed → piece c v ≡ signed_decimal (signed v)
    unfolding piece
    is_signed e = rw e

    pub decimal-room : c ≡ in_decimal → at + length (decimal v) ≤ length b
    decimal-room e = rw (is-decimal e) at room

    pub hex-room : c ≡ in_hex → at + 8 ≤ length b
    hex-room e = rw (is-hex e, hex-length 8 v) at room

    pub signed-room : c ≡ in_signed → at + length (signed_decimal (signed v)) ≤ length b
    signed-room e = rw (is_signed e) at room

    module _ (end : ℕ) (m : List ℕ) where
      pub decimal-put : c ≡ in_decimal → Puts at (decimal v) b end m → Puts at (piece c v) b end m
      decimal-put e p = rw (is-decimal e) p

      pub hex-put : c ≡ in_hex → Puts at (hex 8 v) b end m → Puts at (piece c v) b end m
      hex-put e p = rw (is-hex e) p

      pub signed-put : c ≡ in_signed → Puts at (signed_decimal (signed v)) b end m → Puts at (piece c v) b end m
      signed-put e p = rw (is_signed e) p

    module _ (n₁ : c ≡ in_decimal → ⊥) (n₂ : c ≡ in_hex → ⊥) (n₃ : c ≡ in_signed → ⊥) where
      itself : piece c v ≡ c ∷ []
      unfolding piece
      itself = rw (ne_eqb c in_decimal n₁, ne_eqb c in_hex n₂, ne_eqb c in_signed n₃)

      one : at + 1 ≤ length b
      one = rw itself at room

      pub byte-room : at < length b
      byte-room = omega (arith, one)

      pub byte_put : Puts at (piece c v) b (at + 1) (set b at c)
      byte_put = rw itself (puts_one at b c one)

pub ruleset writing_piece =
    (takes-decimal, takes-hex, takes-signed, takes_none, decimal-room, hex-room, signed-room, decimal-put, hex-put, signed-put, byte-room, byte_put, rules)

-- ---- fill

takes-few : (c : ℕ) → takes c ≤ 1
unfolding takes
takes-few c = by_tests (eqb c in_decimal) (eqb c in_hex) (eqb c in_signed)
  where
    by_tests : (x y z : Bool) → pick x 1 (pick y 1 (pick z 1 0)) ≤ 1
    by_tests true y z = omega arith
    by_tests false true z = omega arith
    by_tests false false true = omega arith
    by_tests false false false = omega arith

-- a byte that takes no number is no mark
no-mark : (c v : ℕ) → takes c ≡ 0 → piece c v ≡ c ∷ []
unfolding takes piece
no-mark c v e = by_tests (eqb c in_decimal) (eqb c in_hex) (eqb c in_signed) e
  where
    by_tests : (x y z : Bool) → ◌≡◌ {A = ℕ} (pick x 1 (pick y 1 (pick z 1 0))) 0
        → pick x (decimal v) (pick y (hex 8 v) (pick z (signed_decimal (signed v)) (c ∷ []))) ≡ c ∷ []
    by_tests true y z f = absurd (omega arith)
    by_tests false true z f = absurd (omega arith)
    by_tests false false true f = absurd (omega arith)
    by_tests false false false f = refl

pub number-there : (vs : List ℕ) (i r : ℕ) → r ≡ get_or vs i 0 → r ≡ get_or vs i 0
number-there vs i r e = e

pub number_behind : (vs : List ℕ) (i : ℕ) → length vs ≤ i → 0 ≡ get_or vs i 0
number_behind vs i h = sym (get_or-eq_default vs 0 h)

module _ (at : ℕ) (pattern numbers b : List ℕ) where
  pub fill_start : Writes at (filled pattern numbers) b (filled (drop 0 pattern) (drop 0 numbers)) at b
  fill_start = writes_start at (filled pattern numbers) b

  module _ (i next end : ℕ) (m : List ℕ) (w : Writes at (filled pattern numbers) b (filled (drop i pattern) (drop next numbers)) end m) where
    pub fill_end : length pattern ≤ i → Puts at (filled pattern numbers) b end m
    unfolding filled
    fill_end h =
        let e : drop i pattern ≡ [] = drop_of_length-le pattern h in
        writes_end at (filled pattern numbers) b end m (rw e at w)

    pub fill-length : at + length (filled pattern numbers) ≤ length b → length m ≡ length b
    fill-length room = writes-length at (filled pattern numbers) b room [] (filled (drop i pattern) (drop next numbers)) end m w

    module _ (h : i < length pattern) (c v : ℕ) (is : c ≡ get_or pattern i 0) (number : v ≡ get_or numbers next 0) where
      split : filled (drop i pattern) (drop next numbers) ≡ piece c v ++ filled (drop (i + 1) pattern) (drop (next + takes c) numbers)
      unfolding filled
      split = rw (drop-cons pattern i 0 h, ← is, get_or-drop, add-zero, ← number, drop-drop, add-one)

      again : Writes at (filled pattern numbers) b (piece c v ++ filled (drop (i + 1) pattern) (drop (next + takes c) numbers)) end m
      again = rw split at w

      module _ (room : at + length (filled pattern numbers) ≤ length b) where
        pub piece-room : end + length (piece c v) ≤ length m
        piece-room = writes-room at (filled pattern numbers) b room (piece c v) (filled (drop (i + 1) pattern) (drop (next + takes c) numbers)) end m again

        pub fill-next : (k end' : ℕ) (m' : List ℕ) → Puts end (piece c v) m end' m' → k ≡ takes c
            → Writes at (filled pattern numbers) b (filled (drop (i + 1) pattern) (drop (next + k) numbers)) end' m'
        fill-next k end' m' p e = rw e (writes-next at (filled pattern numbers) b room (piece c v) (filled (drop (i + 1) pattern) (drop (next + takes c) numbers)) end m again end' m' p)

pub fill_on : (at : ℕ) (pattern numbers b : List ℕ) (c v end end' : ℕ) (m m' : List ℕ) → Puts end (piece c v) m end' m'
    → (i : ℕ) → c ≡ get_or pattern i 0 → (next : ℕ) → v ≡ get_or numbers next 0 → (k : ℕ) → k ≡ takes c
    → Writes at (filled pattern numbers) b (filled (drop i pattern) (drop next numbers)) end m
    → i < length pattern → at + length (filled pattern numbers) ≤ length b
    → Writes at (filled pattern numbers) b (filled (drop (i + 1) pattern) (drop (next + k) numbers)) end' m'
fill_on at pattern numbers b c v end end' m m' p i is next number k e w h room =
    fill-next at pattern numbers b i next end m w h c v is number room k end' m' p e

module _ (at : ℕ) (pattern numbers b : List ℕ) (i next end : ℕ) (m : List ℕ) (w : Writes at (filled pattern numbers) b (filled (drop i pattern) (drop next numbers)) end m)
    (h : i < length pattern) (c k : ℕ) (is : c ≡ get_or pattern i 0) (number : k ≡ takes c) (none : k ≡ 0) (room : at + length (filled pattern numbers) ≤ length b) where
  bare : piece c (get_or numbers next 0) ≡ c ∷ []
  bare = no-mark c (get_or numbers next 0) (sym number ∙ none)

  one-there : end + 1 ≤ length m
  one-there = rw bare at (piece-room at pattern numbers b i next end m w h c (get_or numbers next 0) is refl room)

  pub plain-there : end < length m
  plain-there = omega (arith, one-there)

  pub plain_fits : length b < 2 ^ 64 → Fits w64 (end + 1)
  plain_fits g = record { fits = omega (arith, one-there, fill-length at pattern numbers b i next end m w room) }

  pub plain-on : Writes at (filled pattern numbers) b (filled (drop (i + 1) pattern) (drop next numbers)) (end + 1) (set m end c)
  plain-on =
      let z : next + 0 ≡ next = omega arith in
      let e : 0 ≡ takes c = sym none ∙ number in
      let p : Puts end (piece c (get_or numbers next 0)) m (end + 1) (set m end c) = rw bare (puts_one end m c one-there) in
      rw z at (fill-next at pattern numbers b i next end m w h c (get_or numbers next 0) is refl room 0 (end + 1) (set m end c) p e)

pub few : (c k next i : ℕ) → k ≡ takes c → next ≤ i → next + k ≤ i + 1
few c k next i e h = omega (arith, takes-few c)

pub next_fits : (pattern : List ℕ) (c k next i : ℕ) → k ≡ takes c → next ≤ i → i < length pattern → length pattern < 2 ^ 64 → Fits w64 (next + k)
next_fits pattern c k next i e h l g = record { fits = omega (arith, takes-few c) }

pub ruleset filling = (number-there, number_behind, fill_start, fill_end, fill-length, piece-room, few, next_fits, plain-there, plain_fits, rules)
