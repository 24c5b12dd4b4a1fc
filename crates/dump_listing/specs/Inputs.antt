-- The text for a whole input: a first byte, and the dump behind it. Assumes nothing.
use Rattle.std.specs.Prelude.{◌≡◌, refl, Bool, true, false, ◌||◌, List, [], ◌∷◌, ℕ, ◌+◌, ◌-◌, ◌≤◌, ◌<◌, ltb, eqb, get_or}
use Rattle.std.proofs.Common.{sym, ◌∙◌, zero-add, arith, rules, length-drop, length-take-le}
use Rattle.std.proofs.Math.Path.{ap}
use borrow.Author.Tests.{lt-ltb, le-ltb, ltb-false}
use Rattle.std.proofs.Math.ListN.{length, take, drop}
use Rattle.std.proofs.Math.Seq.{take_all}
use Rattle.machine.specs.Machine.{pick}
use Rattle.rules.specs.Text.{ascii}
use Rattle.rules.specs.Dump.{text_of, dump_of, bad_input, longest_dump, listing}
use Rattle.words.specs.Over.{part_at}
use Rattle.text_numbers.specs.Writing.{Puts, puts-length}
use Rattle.text_filling.specs.Filling.{filled, piece, takes}
use Rattle.dump_lines.specs.Lines.{same-room, same-put}
use Rattle.dump_room.specs.Longest.{dump-bound}
use Rattle.dump_listing.specs.Views.{PutsDump, longest_listing, Listing}

-- ---- put_bad_input

pub bad-input-line : filled (ascii "bad input\n") (0 ∷ []) ≡ bad_input
unfolding filled piece takes
bad-input-line = refl

pub ruleset writing_bad_input = (same-room, same-put, bad-input-line, rules)

-- ---- put_listing

listing-empty-is : (input : List ℕ) → length input ≡ 0 → bad_input ≡ listing input
unfolding listing
listing-empty-is [] e = refl
listing-empty-is (x ∷ xs) e = absurd (omega arith)

first_rest : (input : List ℕ) → (length input ≡ 0 → ⊥) → input ≡ get_or input 0 0 ∷ drop 1 input
first_rest [] n = absurd (n refl)
first_rest (x ∷ xs) n = refl

module _ (input : List ℕ) where
  pub listing-empty : length input ≡ 0 → bad_input ≡ listing input
  listing-empty e = listing-empty-is input e

  module _ (some : length input ≡ 0 → ⊥) where
    whole : listing (get_or input 0 0 ∷ drop 1 input) ≡ listing input
    whole = ap listing (sym (first_rest input some))

    behind : length (drop 1 input) ≡ length input - 1
    behind = length-drop 1 input

    pub listing-other : 1 < get_or input 0 0 → bad_input ≡ listing input
    unfolding listing
    listing-other h = rw (lt-ltb 1 (get_or input 0 0) h) at whole

    module _ (first : get_or input 0 0 ≤ 1) where
      pub listing-longer : longest_dump < length input - 1 → bad_input ≡ listing input
      unfolding listing
      listing-longer h =
          let l : longest_dump < length (drop 1 input) = rw behind h in
          rw (le-ltb 1 (get_or input 0 0) first, lt-ltb longest_dump (length (drop 1 input)) l) at whole

      pub listing_dump : length input - 1 ≤ longest_dump → text_of (dump_of (eqb (get_or input 0 0) 1) (take (length input - 1) (drop 1 input))) ≡ listing input
      unfolding listing
      listing_dump h =
          let l : length (drop 1 input) ≤ longest_dump = rw behind h in
          let t : take (length input - 1) (drop 1 input) ≡ drop 1 input = take_all (length input - 1) (drop 1 input) (omega (arith, behind)) in
          ap (λ b. text_of (dump_of (eqb (get_or input 0 0) 1) b)) t ∙ (rw (le-ltb 1 (get_or input 0 0) first, le-ltb longest_dump (length (drop 1 input)) l) at whole)

module _ (text text' : List ℕ) (same : text ≡ text') (b : List ℕ) where
  pub front-room : length text' ≤ length b → length text ≤ length b
  front-room h = rw same h

pub dump-put : (strict : Bool) (s text b : List ℕ) (end : ℕ) (m : List ℕ) → PutsDump strict s b end m → text_of (dump_of strict s) ≡ text → Puts 0 text b end m
dump-put strict s text b end m p same = rw same at p.puts

pub ruleset going_listing = (front-room, same-put, dump-put, listing-empty, listing-other, listing-longer, listing_dump, rules)

-- ---- list

pub listing-bound : (input : List ℕ) → length (listing input) ≤ longest_listing
unfolding listing
listing-bound [] = omega arith
listing-bound (first ∷ b) = by_test (ltb 1 first || ltb longest_dump (length b)) refl
  where
    within : (x y : Bool) → x || y ≡ false → y ≡ false
    within true y e = absurd (let z : ◌≡◌ {A = ℕ} 0 1 = cc in omega arith)
    within false y e = e

    by_test : (t : Bool) → ltb 1 first || ltb longest_dump (length b) ≡ t → length (pick t bad_input (text_of (dump_of (eqb first 1) b))) ≤ longest_listing
    by_test true e = omega arith
    by_test false e =
        let h : length b ≤ longest_dump = ltb-false longest_dump (length b) (within (ltb 1 first) _ e) in
        omega (arith, dump-bound (eqb first 1) b)

pub listing-fits : (input m : List ℕ) → longest_listing ≤ length m → length (listing input) ≤ length m
listing-fits input m h = omega (arith, listing-bound input)

pub lists : (input b m : List ℕ) (n : ℕ) → Puts 0 (listing input) b n m → longest_listing ≤ length b → Listing input n m
lists input b m n p room =
    let t : List ℕ = listing input in
    let r : 0 + length t ≤ length b = omega (arith, listing-bound input) in
    let e : n ≡ length t = p.place ∙ zero-add (length t) in
    let k : length m ≡ length b = puts-length 0 b t n m p r in
    let i : n ≤ length m = omega arith in
    record {
      text = ap (λ x. take n x) p.is ∙ part_at 0 t b r n (sym e);
      within = i;
      count = sym (length-take-le n m i);
    }

pub ruleset listing_all = (listing-fits, lists, rules)
