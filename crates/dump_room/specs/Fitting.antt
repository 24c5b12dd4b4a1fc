-- Whether a text has room, and what measuring it line by line asks for. Assumes nothing.
use Rattle.std.specs.Prelude.{◌≡◌, refl, Bool, true, false, List, ℕ, ◌+◌, ◌-◌, ◌*◌, ◌/◌, ◌≤◌, ◌<◌, ltb, take, Err, Ok, Result}
use Rattle.std.proofs.Math.Path.{sym, ap}
use Rattle.std.proofs.Common.{◌∙◌, ⊎_elim, rules, lt-ltb, le-ltb, ltb-false, length-append}
use Rattle.std.proofs.Math.Bool.{not}
use Rattle.std.proofs.Math.Nat.{zero-add}
use native.Mathlib.Omega.{arith}
use Rattle.std.proofs.Math.ListN.{length}
use Rattle.rules.specs.Layouts.{stream_header, stream_header_size}
use Rattle.rules.specs.Stream.{stream_rules, stream_of}
use Rattle.rules.specs.Dump.{ending_text, lines_of, text_of, dump_of}
use Rattle.rules.specs.Dump.Ending.{refused}
use Rattle.rules.specs.declared.Refusal.{Refusal}
use Rattle.rules.specs.declared.Stream.{Stream}
use Rattle.words.specs.Over.{below_or_not}
use Rattle.stream_header.specs.Header.{begun}
use Rattle.stream_listing.specs.Begin.{begins-bad, begins-good, size-inside, size-there}
use Rattle.text_numbers.specs.Writing.{Puts, puts-length}
use Rattle.dump_next.specs.Rest.{next_line, rest_from, rest-none}
use Rattle.dump_next.specs.Next.{Goes, GoesOn, GoesNot, goes-less}
use Rattle.dump_next.specs.declared.Going.{Going}
use Rattle.dump_next.specs.declared.Going.TheVariants.{On, Ended}
use Rattle.dump_room.specs.Longest.{dump-bound}
use Rattle.dump_room.specs.Widest.{longest_line, next-short, error-bound}

unfoldable pub fits : List ℕ → ℕ → Bool
fits text room = not (ltb room (length text))

-- ---- within

module _ (long room : ℕ) where
  pub not_within : room < long → false ≡ not (ltb room long)
  not_within h = rw (lt-ltb room long h)

  pub is_within : long ≤ room → true ≡ not (ltb room long)
  is_within h = rw (le-ltb room long h)

pub ruleset telling_within = (not_within, is_within, rules)

-- ---- ample

module _ (long room : ℕ) where
  pub not-ample : room < 90 → false ≡ not (ltb room (10 * long + 90))
  not-ample h = let k : room < 10 * long + 90 = omega arith in rw (lt-ltb room (10 * long + 90) k)

  pub too_long : 90 ≤ room → (room - 90) / 10 < long → false ≡ not (ltb room (10 * long + 90))
  too_long g h = let k : room < 10 * long + 90 = omega arith in rw (lt-ltb room (10 * long + 90) k)

  pub is-ample : 90 ≤ room → long ≤ (room - 90) / 10 → true ≡ not (ltb room (10 * long + 90))
  is-ample g h = let k : 10 * long + 90 ≤ room = omega arith in rw (le-ltb room (10 * long + 90) k)

pub ruleset telling_ample = (not-ample, too_long, is-ample, rules)

-- ---- packets_fit

-- of the room that there was, what is left is for the text that is left
pub record Measures (strict : Bool) (s line₀ : List ℕ) (room at left : ℕ) (line : List ℕ) : Type 0 where
  pub same : length (rest_from strict s stream_header_size) + left ≡ room + length (rest_from strict s at)
  pub long : length line ≡ length line₀

same_test : (a b room left : ℕ) → a + left ≡ room + b → ltb left b ≡ ltb room a
same_test a b room left e =
    ⊎_elim
    (λ s. let t : room < a = omega arith in rw (lt-ltb left b s, lt-ltb room a t))
    (λ l. let t : a ≤ room = omega arith in rw (le-ltb left b l, le-ltb room a t))
    (below_or_not left b)

module _ (strict : Bool) (s line₀ : List ℕ) (room : ℕ) (enough : longest_line ≤ length line₀) where
  abbrev all : List ℕ
  all = rest_from strict s stream_header_size

  pub measures-start : Measures strict s line₀ room stream_header_size room line₀
  measures-start = record { same = omega arith; long = refl }

  module _ (at left : ℕ) (line : List ℕ) (w : Measures strict s line₀ room at left line) where
    room-there : 0 + length (next_line strict s at) ≤ length line
    room-there = omega (arith, next-short strict s at, w.long)

    pub next-room : 0 + length (next_line strict s at) ≤ length line
    next-room = room-there

    pub measured-all : length s ≤ at → true ≡ fits all room
    unfolding fits
    measured-all h =
        let e : length all + left ≡ room + 0 = rw (rest-none strict s at h) at w.same in
        let t : length all ≤ room = omega arith in
        rw (le-ltb room (length all) t)

    module _ (x : Going) (line' : List ℕ) (g : Goes strict s at 0 line x line') where
      pub measured-end : (last : ℕ) → x ≡ Ended last → (r : Bool) → r ≡ not (ltb left last) → r ≡ fits all room
      unfolding fits
      measured-end last e r is =
          let n : GoesNot strict s at 0 line last line' = rw e at g in
          let p : last ≡ length (next_line strict s at) = n.puts.place ∙ zero-add (length (next_line strict s at)) in
          let k : length (rest_from strict s at) ≡ last = ap (λ t. length t) n.whole ∙ sym p in
          let q : length all + left ≡ room + last = rw k at w.same in
          is ∙ ap not (same_test (length all) last room left q)

      module _ (next last : ℕ) (e : x ≡ On next last) where
        on : GoesOn strict s at 0 line next last line'
        on = rw e at g

        line-long : last ≡ length (next_line strict s at)
        line-long = on.puts.place ∙ zero-add (length (next_line strict s at))

        two : length (rest_from strict s at) ≡ last + length (rest_from strict s next)
        two =
            ap (λ t. length t) on.split ∙ (length-append (next_line strict s at) (rest_from strict s next)
            ∙ ap (λ n. n + length (rest_from strict s next)) (sym line-long))

        pub measured-short : left < last → false ≡ fits all room
        unfolding fits
        measured-short h =
            let t : room < length all = omega (arith, two, w.same) in
            rw (lt-ltb room (length all) t)

        pub measures-on : last ≤ left → Measures strict s line₀ room next (left - last) line'
        measures-on h =
            record {
              same = omega (arith, two, w.same);
              long = puts-length 0 line (next_line strict s at) last line' on.puts room-there ∙ w.long;
            }

pub ruleset measuring = (measures-start, next-room, measured-all, measured-end, measured-short, measures-on, rules)

pub ruleset measuring_less = (goes-less, rules)

-- ---- dump_fits

not_beyond : (room long : ℕ) → not (ltb room long) ≡ true → long ≤ room
not_beyond room long e = ltb-false room long (by_test (ltb room long) e)
  where
    by_test : (u : Bool) → not u ≡ true → u ≡ false
    by_test true f = absurd (let z : ◌≡◌ {A = ℕ} 0 1 = cc in omega arith)
    by_test false f = refl

pub fits-ample : (strict : Bool) (s : List ℕ) (room : ℕ) (t : Bool) → t ≡ not (ltb room (10 * length s + 90)) → t ≡ true → true ≡ fits (text_of (dump_of strict s)) room
unfolding fits
fits-ample strict s room t tells h =
    let k : length (text_of (dump_of strict s)) ≤ room = omega (arith, dump-bound strict s, not_beyond room (10 * length s + 90) (sym tells ∙ h)) in
    rw (le-ltb room (length (text_of (dump_of strict s))) k)

pub line-there : (r : Refusal) (line : List ℕ) → 326 ≡ length line → 0 + length (ending_text (refused r)) ≤ length line
line-there r line e = omega (arith, error-bound r)

pub line-enough : (line : List ℕ) → 326 ≡ length line → longest_line ≤ length line
line-enough line e = omega arith

module _ (strict : Bool) (s : List ℕ) (n : ℕ) (all_of : n ≡ length s) (x : Result Stream Refusal)
    (is : x ≡ begun (stream_rules n (stream_header s 0)) (stream_of 0 (stream_header s 0))) (room : ℕ) where
  pub fits-bad : (r : Refusal) → x ≡ Err r → (last : ℕ) (b m : List ℕ) → Puts 0 (ending_text (refused r)) b last m
      → (t : Bool) → t ≡ not (ltb room last) → t ≡ fits (text_of (dump_of strict s)) room
  unfolding fits text_of lines_of
  fits-bad r e last b m p t tells =
      let k : last ≡ length (ending_text (refused r)) = p.place ∙ zero-add (length (ending_text (refused r))) in
      tells ∙ rw (k, begins-bad strict s n all_of x is r e)

  module _ (st : Stream) (e : x ≡ Ok st) (size : ℕ) (z : size ≡ st.size) where
    pub part-inside : size ≤ length s
    part-inside = size-inside strict s n all_of x is st e size z

    pub part-there : size ≡ length (take size s)
    part-there = size-there strict s n all_of x is st e size z

    pub fits-good : (t : Bool) → t ≡ fits (rest_from strict (take size s) stream_header_size) room → t ≡ fits (text_of (dump_of strict s)) room
    unfolding rest_from
    fits-good t tells = tells ∙ ap (λ d. fits (text_of d) room) (sym (begins-good strict s n all_of x is st e size z))

pub ruleset fitting = (fits-ample, line-there, line-enough, part-inside, part-there, fits-bad, fits-good, rules)
