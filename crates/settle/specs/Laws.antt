-- What the functions of this crate ask for: a law for each way to a return, with the tests on the way as its premises.
-- Assumes nothing.
use Rattle.std.specs.Prelude.{◌≡◌, ℕ, ◌+◌, ◌-◌, ◌<◌, ◌≤◌, Bool, true, false, List, ◌++◌, length, take, drop, ◌==◌, ◌≢◌, nat_lt, refl}
use Rattle.std.proofs.Math.Path.{sym}
use Rattle.std.proofs.Common.{ap, ◌∙◌, append_assoc, rules, length-append, Fits}
use native.Mathlib.Omega.{arith}
use borrow.Author.Tests.{ltb-true, ltb-false, le-leb, lt-leb, eq-eqb, ne_eqb}
use Rattle.std.specs.Int.{w64}
use Rattle.machine.specs.Machine.{pick}
use Rattle.words.specs.Over.{part-over, over-over}
use Rattle.words.specs.Fields.{length-bytes_of, put-part, length-put}
use Rattle.rules.specs.Numbers.{page_magic, version}
use Rattle.rules.specs.Bytes.{bytes_of}
use Rattle.rules.specs.Lists.{over}
use Rattle.rules.specs.Layouts.{head_offset, page_bytes}
use Rattle.rules.specs.Settle.{written, next_head, head_written, page_written, marked}
use Rattle.rules.specs.declared.Registers.{Registers}
use Rattle.rules.specs.declared.Job.{Job}
use Rattle.settle.specs.Settling.{head_size, head_end, page_size, page_put}

-- ---- put_page

pub length-page-bytes : (completed : ℕ) → length (page_bytes completed) ≡ page_size
unfolding page_bytes
length-page-bytes completed = simp (length-append, length-bytes_of)

-- three fields written side by side are the page
pub page-fields : (completed : ℕ) (p : List ℕ) → page_size ≤ length p
    → over 8 (bytes_of 8 completed) (over 4 (bytes_of 4 version) (over 0 (bytes_of 4 page_magic) p)) ≡ over 0 (page_bytes completed) p
unfolding page_bytes
page-fields completed p h =
    let two : over 4 (bytes_of 4 version) (over 0 (bytes_of 4 page_magic) p) ≡ over 0 (bytes_of 4 page_magic ++ bytes_of 4 version) p =
    over-over 0 4 (bytes_of 4 page_magic) (bytes_of 4 version) p (simp length-bytes_of (omega arith)) (simp length-bytes_of (omega arith)) in
    let three : over 8 (bytes_of 8 completed) (over 0 (bytes_of 4 page_magic ++ bytes_of 4 version) p) ≡ over 0 ((bytes_of 4 page_magic ++ bytes_of 4 version) ++ bytes_of 8 completed) p =
    over-over 0 8 (bytes_of 4 page_magic ++ bytes_of 4 version) (bytes_of 8 completed) p (simp (length-append, length-bytes_of) (omega arith)) (simp (length-append, length-bytes_of) (omega arith)) in
    rw (two, three) (ap (λ b. over 0 b p) (append_assoc (bytes_of 4 page_magic) (bytes_of 4 version) (bytes_of 8 completed)))

-- a memory whose part from `at` on, of n bytes, is given back as b
abbrev put_back : ℕ → ℕ → List ℕ → List ℕ → List ℕ
put_back at n b m = take at m ++ (b ++ drop n (drop at m))

-- the same of three parts that were lent one after the other
pub page-puts : (completed : ℕ) (l p q s : List ℕ) → page_size ≤ length l → p ≡ over 0 (bytes_of 4 page_magic) (take 4 l)
    → q ≡ over 0 (bytes_of 4 version) (take 4 (drop 4 (p ++ drop 4 l)))
    → s ≡ over 0 (bytes_of 8 completed) (take 8 (drop 8 (put_back 4 4 q (p ++ drop 4 l))))
    → put_back 8 8 s (put_back 4 4 q (p ++ drop 4 l)) ≡ over 0 (page_bytes completed) l
page-puts completed l p q s h a b d =
    let first : p ++ drop 4 l ≡ over 0 (bytes_of 4 page_magic) l = put-part 4 0 4 page_magic l p refl (omega arith) a in
    let n : length (p ++ drop 4 l) ≡ length l = rw first (length-put 4 0 page_magic l (omega arith)) in
    let second : put_back 4 4 q (p ++ drop 4 l) ≡ over 4 (bytes_of 4 version) (p ++ drop 4 l) = put-part 4 4 8 version (p ++ drop 4 l) q refl (omega arith) b in
    let k : length (put_back 4 4 q (p ++ drop 4 l)) ≡ length l = ap length second ∙ (length-put 4 4 version (p ++ drop 4 l) (omega arith) ∙ n) in
    put-part 8 8 16 completed (put_back 4 4 q (p ++ drop 4 l)) s refl (omega arith) d
    ∙ (ap (λ x. over 8 (bytes_of 8 completed) x) (second ∙ ap (λ x. over 4 (bytes_of 4 version) x) first) ∙ page-fields completed l h)

-- ---- write_head, write_page

module _ (at : ℕ) (b m : List ℕ) where
  pub written-within : at + length b ≤ length m → written at b m ≡ over at b m
  unfolding written
  written-within h = rw (le-leb _ _ h)

  pub written-past : length m < at + length b → written at b m ≡ m
  unfolding written
  written-past h = rw (lt-leb _ _ h)

-- a place up to the end of bytes that lie within memory is a number of eight bytes
pub place-fits : (n at p k d : ℕ) (b : Bool) → p ≡ at → b ≡ nat_lt n (at + k) → b ≡ false → n < 18446744073709551616 → d ≤ k → Fits w64 (p + d)
place-fits n at p k d b same is t memory h = record { fits = omega (arith, ltb-false n (at + k) (sym is ∙ t)) }

module _ (j : Job) (m : List ℕ) (n ring : ℕ) (memory : (n ≡ length m) × (n < 18446744073709551616)) (same : ring ≡ j.ring)
    (b : Bool) (is : b ≡ nat_lt n (j.ring + head_end)) where
  pub head-past : b ≡ true → m ≡ head_written j m
  unfolding head_written
  head-past t =
      sym (written-past (j.ring + head_offset) (bytes_of head_size (next_head j.head)) m (rw length-bytes_of (omega (arith, ltb-true n (j.ring + head_end) (sym is ∙ t)))))

  module _ (t : b ≡ false) where
    pub head-within : ring + head_end ≤ length m
    head-within = omega (arith, ltb-false n (j.ring + head_end) (sym is ∙ t))

    pub head_in : (next at end : ℕ) (last : List ℕ) → next ≡ next_head j.head → at ≡ ring + head_offset → end ≡ ring + head_end
        → last ≡ over 0 (bytes_of head_size next) (take (end - at) (drop at m)) → take at m ++ (last ++ drop (end - at) (drop at m)) ≡ head_written j m
    unfolding head_written
    head_in next at end last n a e l =
        let there : at ≡ j.ring + head_offset = omega arith in
        put-part head_size at end next m last (omega arith) (omega (arith, head-within)) l
        ∙ rw (n, there) (sym (written-within (j.ring + head_offset) (bytes_of head_size (next_head j.head)) m (rw length-bytes_of (omega (arith, head-within)))))

module _ (gpa completed : ℕ) (m : List ℕ) (page : ℕ) (same : page ≡ gpa) where
  pub page-none : page ≡ 0 → m ≡ page_put gpa completed m
  page-none z = rw (eq-eqb gpa 0 (omega arith))

  module _ (n : ℕ) (memory : (n ≡ length m) × (n < 18446744073709551616)) (b : Bool) (is : b ≡ nat_lt n (gpa + page_size)) where
    pub page-past : b ≡ true → m ≡ page_put gpa completed m
    page-past t =
        rw (written-past gpa (page_bytes completed) m (rw length-page-bytes (omega (arith, ltb-true n (gpa + page_size) (sym is ∙ t))))) (either (gpa == 0))
      where
        either : (x : Bool) → m ≡ pick x m m
        either true = refl
        either false = refl

    module _ (t : b ≡ false) where
      pub page-within : page + page_size ≤ length m
      page-within = omega (arith, ltb-false n (gpa + page_size) (sym is ∙ t))

      pub page-in : (end : ℕ) (last : List ℕ) → (page ≢ 0) → end ≡ page + page_size
          → last ≡ over 0 (page_bytes completed) (take (end - page) (drop page m)) → take page m ++ (last ++ drop (end - page) (drop page m)) ≡ page_put gpa completed m
      page-in end last some e l =
          part-over page end m last (page_bytes completed) (rw length-page-bytes e) (omega (arith, page-within)) l
          ∙ rw (ne_eqb gpa 0 (λ z. some (same ∙ z)), same) (sym (written-within gpa (page_bytes completed) m (rw length-page-bytes (omega (arith, page-within)))))

pub ruleset writing =
    (page-puts, place-fits, head-past, head-within, head_in, page-none, page-past, page-within, page-in, rules)

-- ---- mark

pub marks : (gpa completed : ℕ) (j : Job) (m m₁ m₂ : List ℕ) → m₁ ≡ head_written j m → m₂ ≡ page_put gpa completed m₁ → m₂ ≡ page_put gpa completed (head_written j m)
marks gpa completed j m m₁ m₂ b c = c ∙ ap (page_put gpa completed) b

-- and with the numbers of some registers it is what the rules write
pub marks-as : (r : Registers) (j : Job) (m : List ℕ) → page_put r.fencepage r.completed (head_written j m) ≡ marked j r m
unfolding marked page_written
marks-as r j m = refl

pub ruleset marking = (marks, rules)
